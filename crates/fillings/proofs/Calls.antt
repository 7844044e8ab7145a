-- What Judge, Keep and Re-judge answer and leave means what it says of the fillings, and lasts where the outcome of every path does. Assumes nothing.
use Prim.Native.Nat.{ℕ, ◌<◌}
use mathlib.Core.Path.{◌≡◌, refl, sym, ap, ◌∙◌, subst}
use mathlib.Core.Bool.{Bool, true, false, cond}
use mathlib.Core.List.{List}
use mathlib.Core.Logic.{◌↔◌}
use borrow.Author.Tests.{eqb-true, eqb-false, eq-eqb, not-false}
use lib.Dec.{eqb}
use lib.ListN.{length}
use Rattle.types.specs.declared.Ground.{Ground}
use Rattle.types.specs.declared.Cause.TheVariants.{ByGround}
use Rattle.types.specs.declared.Verdict.{Verdict}
use Rattle.types.specs.declared.Verdict.TheVariants.{Valid, Invalid, Unknown}
use Rattle.types.specs.declared.Answer.TheVariants.{Plain}
use Rattle.types.specs.declared.Refusal.{Refusal}
use Rattle.types.specs.Numbers.{verdict_number, verdict_of}
use Rattle.types.specs.Rows.{first_given}
use Rattle.types.proofs.Clashes.{clash, some_not_none}
use Rattle.types.proofs.Refusing.{row_passed, accepted_none}
use Rattle.as_path.specs.Segments.{number_bytes, segments}
use Rattle.as_path.specs.Reading.{merged, grounded, content_of}
use Rattle.as_path.proofs.Laws.{path_laws}
use Rattle.as_path.proofs.Contents.{merged_means}
use Rattle.keyed.proofs.Finds.{every_at}
use Rattle.rules.specs.Hops.{HopFunction}
use Rattle.rules.specs.Verdicts.{judged}
use Rattle.rules.specs.Judging.{judge_rows, unless_given, judged_route, refusal_in}
use Rattle.rules.proofs.Judges.{judged_reads, Judgement, on-ground, on_path, judgement}
use Rattle.registers.specs.Registers.{Registers, hop_in, BothFormed}
use Rattle.ledger.specs.Routes.{Route, routes_of, route_at, route_ok, path_ok}
use Rattle.ledger.proofs.Holding.{routes-ok, each_ok, rules_by_ground}
use Rattle.ledger.proofs.Laws.{route_laws}
use Rattle.rejudge.specs.Rejudging.{rejudged_route}
use Rattle.effects.specs.Calls.{Keeping, register_rows, keep_rows, judge_answer, kept_answer, keep_effect, kept_route, rejudge_effect}
use Rattle.effects.specs.Laws.{WellFormed}
use Rattle.effects.proofs.Judgings.{judge_answers}
use Rattle.effects.proofs.Tables.{accepted, rejudge_accepts}
use Rattle.effects.proofs.Laws.{call_laws}
use Rattle.fillings.specs.Fillings.{Outcome, valid, invalid, unknown, outcome_of, outcome, Means, MergedPath, Stays}
use Rattle.fillings.specs.Calls.{outcome_in, outcome_number, HasPath, CallMeanings, Lasts}
use Rattle.fillings.proofs.Fillings.{meaning}
use Rattle.std.specs.Prelude.{Err, None, Ok, Option, Result, Some}
use Rattle.types.specs.declared.Answer.{Answer}

-- ---- an outcome that is told

-- An outcome can be read off what it is told as.
pub record Telling {A : Type 0} (tell : Outcome → A) : Type 0 where
  pub read : A → Outcome
  pub is : (o : Outcome) → read (tell o) ≡ o

by_some : Telling Some
by_some = record { read = from; is = λ o. refl }
  where
    from : Option Outcome → Outcome
    from None = valid
    from (Some o) = o

by_number : Telling outcome_number
by_number = record { read = λ n. cond (eqb n 0) valid (cond (eqb n 1) invalid unknown); is = from }
  where
    from : (o : Outcome) → cond (eqb (outcome_number o) 0) valid (cond (eqb (outcome_number o) 1) invalid unknown) ≡ o
    from valid = refl
    from invalid = refl
    from unknown = refl

told_only : {A : Type 0} {tell : Outcome → A} → Telling tell → {o p : Outcome} → tell o ≡ tell p → o ≡ p
told_only t {o} {p} e = sym (t.is o) ∙ ap t.read e ∙ t.is p

-- A verdict is stored as its outcome's number.
numbered : (v : Verdict) → verdict_number v ≡ outcome_number (outcome_of v)
numbered Valid = refl
numbered (Invalid c) = refl
numbered (Unknown a b) = refl

path_numbered : (hop : HopFunction) (path : List ℕ) (role : ℕ) → verdict_number (verdict_of (judged hop path role)) ≡ outcome_number (outcome hop path role)
path_numbered hop path role = numbered (verdict_of (judged hop path role))

-- So what tells a path's outcome means it.
told_means : {A : Type 0} {tell : Outcome → A} → Telling tell → (hop : HopFunction) (path : List ℕ) (role : ℕ) {x : A} → x ≡ tell (outcome hop path role)
    → (o : Outcome) → (x ≡ tell o) ↔ Means o hop path role
told_means {tell} t hop path role e o = (
  λ q. (meaning hop path role o).0 (told_only t (sym e ∙ q)),
  λ m. e ∙ ap tell ((meaning hop path role o).1 m),
)

-- ---- Judge

module _ (role neighbour : ℕ) (attribute : List ℕ) (passes : first_given (judge_rows role neighbour attribute) ≡ None) (hop : HopFunction) where
  path_judged : (path : List ℕ) → content_of role neighbour attribute ≡ merged path → judged_route hop role neighbour attribute ≡ Ok (judged hop path role)
  path_judged path c = go (judgement hop role neighbour attribute passes)
    where
      go : Judgement hop role neighbour attribute → judged_route hop role neighbour attribute ≡ Ok (judged hop path role)
      go (on-ground g d j) = clash (let z : grounded g ≡ merged path = sym d ∙ c in cc)
      go (on_path p d short j) =
          let z : merged p ≡ merged path = sym d ∙ c in
          let q : p ≡ path = cc in
          j ∙ ap (λ p. Ok (judged hop p role)) q

  ground_judged : (g : Ground) → content_of role neighbour attribute ≡ grounded g → judged_route hop role neighbour attribute ≡ Ok (Plain (Invalid (ByGround g)))
  ground_judged g c = go (judgement hop role neighbour attribute passes)
    where
      go : Judgement hop role neighbour attribute → judged_route hop role neighbour attribute ≡ Ok (Plain (Invalid (ByGround g)))
      go (on-ground h d j) =
          let z : grounded h ≡ grounded g = sym d ∙ c in
          let q : h ≡ g = cc in
          j ∙ ap (λ h. Ok (Plain (Invalid (ByGround h)))) q
      go (on_path p d short j) = clash (let z : merged p ≡ grounded g = sym d ∙ c in cc)

-- Over well-formed registers.
module _ (reg : Registers) (w : BothFormed reg) (role neighbour : ℕ) (attribute : List ℕ) where
  judges : judge_answer reg role neighbour attribute ≡ judged_route (hop_in reg) role neighbour attribute
  judges = judge_answers reg role neighbour attribute w.long w.ok

  judge_outcome : (path : List ℕ) → HasPath role neighbour attribute path
      → outcome_in (judge_answer reg role neighbour attribute) ≡ Some (outcome (hop_in reg) path role)
  judge_outcome path h = ap outcome_in (judges ∙ path_judged role neighbour attribute h.passes (hop_in reg) path h.read)

  judge_means : (path : List ℕ) → HasPath role neighbour attribute path → (o : Outcome)
      → (outcome_in (judge_answer reg role neighbour attribute) ≡ Some o) ↔ Means o (hop_in reg) path role
  judge_means path h = told_means by_some (hop_in reg) path role (judge_outcome path h)

-- ---- Keep

module _ (reg : Registers) (led : List ℕ) (k : Keeping) (path : List ℕ) (e : first_given (keep_rows reg led k) ≡ None)
    (c : content_of k.role k.neighbour k.attribute ≡ merged path) where
  kept_judged : kept_answer reg k ≡ Ok (judged (hop_in reg) path k.role)
  kept_judged = path_judged k.role k.neighbour k.attribute (accepted reg led k e).argued (hop_in reg) path c

  keep_means : (o : Outcome) → (outcome_in (keep_effect reg led k).answer ≡ Some o) ↔ Means o (hop_in reg) path k.role
  unfolding keep_effect
  keep_means = told_means by_some (hop_in reg) path k.role (rw (e, kept_judged))

  stored_means : (o : Outcome) → ((kept_route reg k).verdict ≡ outcome_number o) ↔ Means o (hop_in reg) path k.role
  stored_means = told_means by_number (hop_in reg) path k.role (rw kept_judged (path_numbered (hop_in reg) path k.role))

-- ---- Re-judge

-- A route without a ground has its outcome's number after a re-judging.
rejudged_number : (hop : HopFunction) (r : Route) → r.ground_code ≡ 0 → (rejudged_route hop r).verdict ≡ outcome_number (outcome hop r.path r.role)
rejudged_number hop r g = rw (eq-eqb r.ground_code 0 g) (path_numbered hop r.path r.role)

rejudged_means : (hop : HopFunction) (r : Route) → (rejudged_route hop r).ground_code ≡ 0
    → (o : Outcome) → ((rejudged_route hop r).verdict ≡ outcome_number o) ↔ Means o hop (rejudged_route hop r).path (rejudged_route hop r).role
rejudged_means hop r = go (eqb r.ground_code 0) refl
  where
    P : Route → Type 0
    P q = q.ground_code ≡ 0 → (o : Outcome) → (q.verdict ≡ outcome_number o) ↔ Means o hop q.path q.role

    go : (b : Bool) → eqb r.ground_code 0 ≡ b → P (rejudged_route hop r)
    go true e = rw e (λ g. told_means by_number hop r.path r.role (path_numbered hop r.path r.role))
    go false e = rw e (λ g. absurd (eqb-false _ _ e g))

module _ (reg : Registers) (led : List ℕ) (w : WellFormed reg led) (i : ℕ) (h : i < length (routes_of led)) where
  rewrites : route_at (routes_of (rejudge_effect reg led).words) i ≡ rejudged_route (hop_in reg) (route_at (routes_of led) i)
  rewrites =
      call_laws.rejudge_rewrites reg led _
      (ap (λ s. s.answer)
      (rejudge_accepts reg led (record { long = w.registers_long; ok = w.registers_ok }) (record { long = w.ledger_long; ok = w.ledger-ok }))) i h

  rejudge_means : let r = route_at (routes_of (rejudge_effect reg led).words) i in
      r.ground_code ≡ 0 → (o : Outcome) → (r.verdict ≡ outcome_number o) ↔ Means o (hop_in reg) r.path r.role
  rejudge_means =
      subst (λ r. r.ground_code ≡ 0 → (o : Outcome) → (r.verdict ≡ outcome_number o) ↔ Means o (hop_in reg) r.path r.role) (sym rewrites)
      (rejudged_means (hop_in reg) (route_at (routes_of led) i))

pub call_meanings : CallMeanings
call_meanings =
    record {
      judge_means = λ reg w role neighbour attribute path h. judge_means reg w role neighbour attribute path h;
      keep_means = keep_means;
      stored_means = stored_means;
      rejudge_means = λ reg led w i h. rejudge_means reg led w i h;
    }

-- ---- what lasts

-- Numbers that were read as a path, and those of a stored route, are as merging leaves them.
read_merged : (role neighbour : ℕ) (attribute path : List ℕ) → content_of role neighbour attribute ≡ merged path → MergedPath path
read_merged role neighbour attribute path c =
    let m = merged_means role neighbour attribute path c in
    subst MergedPath (sym m.same)
    (record { no-zero = path_laws.no-zero number_bytes attribute m.clean; no-runs = path_laws.no-runs (segments number_bytes attribute) })

stored_merged : (r : Route) → route_ok r ≡ true → r.ground_code ≡ 0 → MergedPath r.path
stored_merged r ok g =
    let e : path_ok r.role r.neighbour r.path ≡ true = rw (eq-eqb r.ground_code 0 g) at (rules_by_ground r ok) in
    let rules = (route_laws.path_rules r.role r.neighbour r.path).0 e in
    record { no-zero = rules.no-zero; no-runs = rules.no-runs }

-- A judging that answers an outcome had well-formed registers and is refused by no row.
judge_formed : (reg : Registers) (role neighbour : ℕ) (attribute : List ℕ) (o : Outcome) → outcome_in (judge_answer reg role neighbour attribute) ≡ Some o
    → BothFormed reg
unfolding judge_answer
judge_formed reg role neighbour attribute o e = go (first_given (register_rows reg)) refl e
  where
    go : (f : Option Refusal) → first_given (register_rows reg) ≡ f
        → outcome_in (unless_given f (judged_route (hop_in reg) role neighbour attribute)) ≡ Some o → BothFormed reg
    go (Some r) p q = some_not_none (sym q)
    go None p q =
        let given = accepted_none (register_rows reg) p in
        record { long = not-false _ (row_passed _ _ (given 0)); ok = not-false _ (row_passed _ _ (given 1)) }

answered : (j : Result Answer Refusal) (o : Outcome) → outcome_in j ≡ Some o → refusal_in j ≡ None
answered (Ok a) o e = refl
answered (Err r) o e = some_not_none (sym e)

module _ (o : Outcome) (reg reg' : Registers) (formed : BothFormed reg → BothFormed reg') (stays : Stays o (hop_in reg) (hop_in reg')) where
  judged_lasts : (role neighbour : ℕ) (attribute : List ℕ)
      → outcome_in (judge_answer reg role neighbour attribute) ≡ Some o → outcome_in (judge_answer reg' role neighbour attribute) ≡ Some o
  judged_lasts role neighbour attribute e = go (judgement (hop_in reg) role neighbour attribute passes)
    where
      w : BothFormed reg
      w = judge_formed reg role neighbour attribute o e

      passes : first_given (judge_rows role neighbour attribute) ≡ None
      passes =
          sym (judged_reads (hop_in reg) role neighbour attribute)
          ∙ answered (judged_route (hop_in reg) role neighbour attribute) o (sym (ap outcome_in (judges reg w role neighbour attribute)) ∙ e)

      go : Judgement (hop_in reg) role neighbour attribute → outcome_in (judge_answer reg' role neighbour attribute) ≡ Some o
      go (on-ground g c j) =
          ap outcome_in (judges reg' (formed w) role neighbour attribute ∙ ground_judged role neighbour attribute passes (hop_in reg') g c)
          ∙ sym (ap outcome_in (judges reg w role neighbour attribute ∙ j)) ∙ e
      go (on_path path c short j) =
          let h : HasPath role neighbour attribute path = record { passes = passes; read = c } in
          let was : outcome (hop_in reg) path role ≡ o = told_only by_some (sym (judge_outcome reg w role neighbour attribute path h) ∙ e) in
          judge_outcome reg' (formed w) role neighbour attribute path h ∙ ap Some (stays path (read_merged role neighbour attribute path c) role was)

  route_lasts : (r : Route) → route_ok r ≡ true → (rejudged_route (hop_in reg) r).verdict ≡ outcome_number o → (rejudged_route (hop_in reg') r).verdict ≡ outcome_number o
  route_lasts r ok = go (eqb r.ground_code 0) refl
    where
      go : (b : Bool) → eqb r.ground_code 0 ≡ b
          → (rejudged_route (hop_in reg) r).verdict ≡ outcome_number o → (rejudged_route (hop_in reg') r).verdict ≡ outcome_number o
      go true g e =
          let z : r.ground_code ≡ 0 = eqb-true _ _ g in
          rejudged_number (hop_in reg') r z
          ∙ ap outcome_number (stays r.path (stored_merged r ok z) r.role (told_only by_number (sym (rejudged_number (hop_in reg) r z) ∙ e)))
      go false g e = rw g (rw g at e)

  pub lasts : Lasts o reg reg'
  lasts = record { judged = judged_lasts; rejudged = rejudged_lasts }
    where
      rejudged_lasts : (led : List ℕ) → WellFormed reg led → (i : ℕ) → i < length (routes_of led)
          → (route_at (routes_of (rejudge_effect reg led).words) i).verdict ≡ outcome_number o
          → (route_at (routes_of (rejudge_effect reg' led).words) i).verdict ≡ outcome_number o
      rejudged_lasts led w i h e =
          let f = formed (record { long = w.registers_long; ok = w.registers_ok }) in
          let w' : WellFormed reg' led = record { registers_long = f.long; registers_ok = f.ok; ledger_long = w.ledger_long; ledger-ok = w.ledger-ok } in
          ap (λ r. r.verdict) (rewrites reg' led w' i h)
          ∙ route_lasts (route_at (routes_of led) i) (every_at route_ok (routes_of led) _ (each_ok (routes_of led) (routes-ok led w.ledger-ok)) i h)
          (sym (ap (λ r. r.verdict) (rewrites reg led w i h)) ∙ e)
