-- What the documents say of Keep, Drop, Re-judge, Hop and the look-up, as statements. proofs/Laws.antt has the proof.
use Rattle.std.specs.Prelude.{ℕ, suc, ◌≤◌, ◌<◌, ◌≡◌, true, cond, ◌↔◌, List, [], eqb, length, get_or, Err, None, Ok, Some}
use Rattle.types.specs.declared.Refusal.{Refusal}
use Rattle.types.specs.declared.Origins.{Origins}
use Rattle.types.specs.declared.Cause.TheVariants.{ByHops}
use Rattle.types.specs.declared.Verdict.TheVariants.{Invalid}
use Rattle.types.specs.declared.Answer.{Answer}
use Rattle.types.specs.Numbers.{verdict_number, verdict_ground, place_a, place_b, verdict_of}
use Rattle.types.specs.Rows.{effect, FirstAt}
use Rattle.as_path.specs.Reading.{content_of}
use Rattle.rules.specs.Records.{list_of, counting}
use Rattle.register.specs.Register.{last_source, records_of}
use Rattle.registers.specs.Registers.{Registers, hop_in, both_long, both_ok, BothFormed}
use Rattle.ledger.specs.Routes.{ledger_words, Route, routes_of, route_at, no_runs, route_ok, routes_ok, ledger_ok}
use Rattle.ledger.specs.Calls.{find_route, holds_route, erase_route, route_for, stamped, differs}
use Rattle.rejudge.specs.Rejudging.{rejudged_route, count_below}
use Rattle.effects.specs.Calls.{Keeping, register_rows, path_in, judge_answer, kept_route, keep_effect, rejudge_effect, hop_answer, look_rows, lookup_list}

-- A route has the arguments of its keeping and the answer's ground, verdict and places.
pub record KeptWith (answer : Answer) (k : Keeping) (r : Route) : Type 0 where
  pub number_is : r.number ≡ k.number
  pub role_is : r.role ≡ k.role
  pub neighbour_is : r.neighbour ≡ k.neighbour
  pub ground_is : r.ground_code ≡ verdict_ground (verdict_of answer)
  pub verdict_is : r.verdict ≡ verdict_number (verdict_of answer)
  pub a_is : r.a ≡ place_a (verdict_of answer)
  pub b_is : r.b ≡ place_b (verdict_of answer)
  pub path_is : r.path ≡ path_in (content_of k.role k.neighbour k.attribute)

-- The registers and the ledger are well formed.
pub record WellFormed (reg : Registers) (led : List ℕ) : Type 0 where
  pub registers_long : both_long reg ≡ true
  pub registers_ok : both_ok reg ≡ true
  pub ledger_long : length led ≡ ledger_words
  pub ledger-ok : ledger_ok led ≡ true

pub record CallLaws : Type 0 where
  -- Keep answers what Judge answers,
  pub keep_answers : (reg : Registers) (led : List ℕ) (k : Keeping) (a : Answer) → (keep_effect reg led k).answer ≡ Ok a
      → judge_answer reg k.role k.neighbour k.attribute ≡ Ok a
  -- and stores one new route, with that answer's ground, verdict and places; the others stay.
  pub keep_stores : (reg : Registers) (led : List ℕ) (k : Keeping) (a : Answer) → (keep_effect reg led k).answer ≡ Ok a → (number : ℕ)
      → find_route number (routes_of (keep_effect reg led k).words)
      ≡ cond (eqb number k.number) (Some (kept_route reg k)) (find_route number (routes_of led))
  pub keep_holds : (reg : Registers) (led : List ℕ) (k : Keeping) (a : Answer) → (keep_effect reg led k).answer ≡ Ok a → KeptWith a k (kept_route reg k)
  -- That route keeps the rules of a route, and no two equal numbers stand side by side on its path.
  pub keep_rules : (reg : Registers) (led : List ℕ) (k : Keeping) (a : Answer) → (keep_effect reg led k).answer ≡ Ok a → route_ok (kept_route reg k) ≡ true
  pub keep_apart : (reg : Registers) (led : List ℕ) (k : Keeping) (a : Answer) → (keep_effect reg led k).answer ≡ Ok a
      → no_runs (kept_route reg k).path ≡ true
  -- The registers that an Invalid names are not stored, by a keeping or by a re-judging: verdicts that differ in them alone make the same route.
  pub origins_unkept : (number role neighbour a b : ℕ) (o p : Origins) (path : List ℕ)
      → route_for number role neighbour (Invalid (ByHops a b o)) path ≡ route_for number role neighbour (Invalid (ByHops a b p)) path
  pub origins_unstamped : (a b : ℕ) (o p : Origins) (r : Route) → stamped (Invalid (ByHops a b o)) r ≡ stamped (Invalid (ByHops a b p)) r
  -- Of a ledger's routes a drop takes out its own and no other.
  pub drops_own : (number : ℕ) (rs : List Route) → find_route number (erase_route number rs) ≡ None
  pub drops_no_other : (number : ℕ) (rs : List Route) (k : ℕ) → (number ≡ k → ⊥) → find_route k (erase_route number rs) ≡ find_route k rs
  pub drops_one : (number : ℕ) (rs : List Route) → routes_ok rs ≡ true → holds_route number rs ≡ true
      → suc (length (erase_route number rs)) ≡ length rs
  -- Re-judge judges each route anew at its index,
  pub rejudge_rewrites : (reg : Registers) (led : List ℕ) (n : ℕ) → (rejudge_effect reg led).answer ≡ Ok n → (i : ℕ) → i < length (routes_of led)
      → route_at (routes_of (rejudge_effect reg led).words) i ≡ rejudged_route (hop_in reg) (route_at (routes_of led) i)
  -- and answers how many differ in the verdict or a place before and after.
  pub rejudge_count : (reg : Registers) (led : List ℕ) (n : ℕ) → (rejudge_effect reg led).answer ≡ Ok n
      → n ≡ count_below (λ i. differs (route_at (routes_of led) i) (route_at (routes_of (rejudge_effect reg led).words) i)) (length (routes_of led))
  -- A second one changes nothing, and answers so.
  pub rejudge_twice : (reg : Registers) (led : List ℕ) → WellFormed reg led
      → rejudge_effect reg (rejudge_effect reg led).words ≡ effect (Ok 0) (rejudge_effect reg led).words

-- ---- Hop and the look-up

pub record HopCallLaws : Type 0 where
  -- Hop is refused exactly by the first of rows 1 and 2 that is given,
  pub hop_refuses : (reg : Registers) (x y : ℕ) (r : Refusal) → (hop_answer reg x y ≡ Err r) ↔ ((i : ℕ) × FirstAt (register_rows reg) i r)
  -- and over well-formed registers it answers what the register that counts for x says of y.
  pub hop_answers : (reg : Registers) → BothFormed reg → (x y : ℕ) → hop_answer reg x y ≡ Ok (hop_in reg x y)
  -- A look-up that some row is given to hands back the empty list,
  pub lookup_refused : (reg : Registers) (source customer i : ℕ) (r : Refusal) → get_or (look_rows reg source customer) i None ≡ Some r
      → lookup_list reg source customer ≡ []
  -- and every other the list of its source in the register that counts for the customer.
  pub lookup_answers : (reg : Registers) → BothFormed reg → (source customer : ℕ) → source ≤ last_source → 1 ≤ customer
      → lookup_list reg source customer ≡ list_of (counting (records_of reg.public) (records_of reg.overrides) customer) source customer
