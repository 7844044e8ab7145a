-- What the bytes where a walk stands show, fault by fault, and what a segment's numbers show, one by one. Assumes nothing.
use Prim.Native.Nat.{ℕ, ◌+◌, ◌-◌, ◌*◌, ◌≤◌, ◌<◌}
use mathlib.Core.Path.{◌≡◌, refl, sym, ◌∙◌, ap}
use mathlib.Core.Bool.{cond}
use mathlib.Core.List.{List}
use native.Mathlib.Omega.{arith}
use native.Mathlib.Nat.{mul-le-mul_left}
use borrow.Author.Tests.{lt-ltb, le-ltb, eq-eqb, ne_eqb}
use lib.Dec.{ltb, eqb}
use lib.ListN.{length, take, drop}
use Rattle.types.specs.declared.Fault.{Fault}
use Rattle.types.specs.declared.Fault.TheVariants.{CutShort, UnknownType, Confederation, NoNumbers, ZeroNumber}
use Rattle.as_path.specs.Segments.{number_at, type_at, count_at, end_of}
use Rattle.as_path.specs.Faults.{numbers_fault, segment_fault, fault_among, first_fault}
use Rattle.as_path.proofs.Walking.{Stand, left, next, one_more}
use Rattle.as_path.proofs.Scanning.{number_part, number_decides, none_decides, Outer}
use Rattle.std.specs.Prelude.{Option, Some}

-- ---- the segment where the walk stands

module _ {w : ℕ} {xs : List ℕ} {p : ℕ} (o : Outer w xs p) where
  abbrev pub after : Option (Fault × ℕ)
  after = fault_among w xs (left (next o.stand))

  module _ (h : p < length xs) where
    enter : first_fault w xs ≡ segment_fault w xs p after
    unfolding fault_among
    enter = o.same ∙ ap (fault_among w xs) (one_more o.stand h)

    pub one_byte : length xs - p < 2 → Some (CutShort, p) ≡ first_fault w xs
    unfolding segment_fault
    one_byte e = rw (enter, lt-ltb (length xs - p) 2 e)

    module _ (two : 2 ≤ length xs - p) where
      pub type_zero : type_at xs p ≡ 0 → Some (UnknownType, p) ≡ first_fault w xs
      unfolding segment_fault
      type_zero e = rw (enter, le-ltb (length xs - p) 2 two, eq-eqb (type_at xs p) 0 e)

      module _ (typed : type_at xs p ≡ 0 → ⊥) where
        pub type_over : 4 < type_at xs p → Some (UnknownType, p) ≡ first_fault w xs
        unfolding segment_fault
        type_over e = rw (enter, le-ltb (length xs - p) 2 two, ne_eqb (type_at xs p) 0 typed, lt-ltb 4 (type_at xs p) e)

        pub confederation : 2 < type_at xs p → type_at xs p ≤ 4 → Some (Confederation, p) ≡ first_fault w xs
        unfolding segment_fault
        confederation e e4 =
            rw (
              enter,
              le-ltb (length xs - p) 2 two,
              ne_eqb (type_at xs p) 0 typed,
              le-ltb 4 (type_at xs p) e4,
              lt-ltb 2 (type_at xs p) e,
            )

        module _ (known : type_at xs p ≤ 2) where
          counted : first_fault w xs
              ≡ cond (eqb (count_at xs p) 0) (Some (NoNumbers, p))
              (cond (ltb (length xs) (end_of w xs p)) (Some (CutShort, p))
              (numbers_fault w (count_at xs p) xs (p + 2) after))
          unfolding segment_fault
          counted =
              let known4 : type_at xs p ≤ 4 = omega arith in
              rw (
                enter,
                le-ltb (length xs - p) 2 two,
                ne_eqb (type_at xs p) 0 typed,
                le-ltb 4 (type_at xs p) known4,
                le-ltb 2 (type_at xs p) known,
              )

          pub count_zero : count_at xs p ≡ 0 → Some (NoNumbers, p) ≡ first_fault w xs
          count_zero e = rw (counted, eq-eqb (count_at xs p) 0 e)

          module _ (some : count_at xs p ≡ 0 → ⊥) where
            pub body_short : length xs < end_of w xs p → Some (CutShort, p) ≡ first_fault w xs
            body_short e = rw (counted, ne_eqb (count_at xs p) 0 some, lt-ltb (length xs) (end_of w xs p) e)

            pub body_whole : end_of w xs p ≤ length xs → first_fault w xs ≡ numbers_fault w (count_at xs p) xs (p + 2) after
            body_whole e = rw (counted, ne_eqb (count_at xs p) 0 some, le-ltb (length xs) (end_of w xs p) e)

-- ---- its numbers

-- k numbers of the segment's body are passed.
pub record Inner (w : ℕ) (xs : List ℕ) (from count to : ℕ) (body : List ℕ) (k : ℕ) : Type 0 where
  pub stand : Stand w xs to
  pub passed : k ≤ count
  pub some : 0 < count
  pub to_is : to ≡ from + w * count
  pub within : to ≤ length xs
  pub part : body ≡ take (to - from) (drop from xs)
  pub same : first_fault w xs ≡ numbers_fault w (count - k) xs (from + w * k) (fault_among w xs (left stand))

pub enters :
    {w : ℕ} {xs : List ℕ} {p count : ℕ} (o : Outer w xs p)
    → p < length xs → 2 ≤ length xs - p → (type_at xs p ≡ 0 → ⊥) → type_at xs p ≤ 2
    → count ≡ count_at xs p → (count ≡ 0 → ⊥) → p + 2 + w * count ≤ length xs
    → Inner w xs (p + 2) count (p + 2 + w * count) (take (p + 2 + w * count - (p + 2)) (drop (p + 2) xs)) 0
enters {w} {xs} {p} {count} o h two typed known e some fits =
    rw e (record {
      stand = next o.stand;
      passed = omega arith;
      some = omega arith;
      to_is = refl;
      within = rw e at fits;
      part = refl;
      same = same;
    })
  where
    some' : count_at xs p ≡ 0 → ⊥
    some' z = some (e ∙ z)

    fits' : end_of w xs p ≤ length xs
    fits' = rw e at fits

    same : first_fault w xs ≡ numbers_fault w (count_at xs p - 0) xs (p + 2 + w * 0) (after o)
    same =
        let z : count_at xs p - 0 ≡ count_at xs p = omega arith in
        let y : p + 2 + w * 0 ≡ p + 2 = omega arith in
        rw (z, y) (body_whole o h two typed known some' fits')

module _ {w : ℕ} {xs : List ℕ} {from count to k : ℕ} {body : List ℕ} (b : Inner w xs from count to body k) where
  module _ (h : k < count) where
    number_is : number_at w body (w * k) ≡ number_at w xs (from + w * k)
    number_is =
        let m : w * (k + 1) ≤ w * count = mul-le-mul_left w (omega arith) in
        rw b.part (number_part w xs from (to - from) (w * k) (omega (arith, b.to_is)))

    opened :
        first_fault w xs
        ≡ cond (eqb (number_at w xs (from + w * k)) 0) (Some (ZeroNumber, from + w * k))
        (numbers_fault w (count - (k + 1)) xs (from + w * (k + 1)) (fault_among w xs (left b.stand)))
    opened = b.same ∙ number_decides w count xs from k (fault_among w xs (left b.stand)) h

    pub zero_found : number_at w body (w * k) ≡ 0 → Some (ZeroNumber, from + w * k) ≡ first_fault w xs
    zero_found e = rw (opened, eq-eqb (number_at w xs (from + w * k)) 0 (sym number_is ∙ e))

    pub passes : (number_at w body (w * k) ≡ 0 → ⊥) → Inner w xs from count to body (k + 1)
    passes e =
        record {
          stand = b.stand;
          passed = omega arith;
          some = b.some;
          to_is = b.to_is;
          within = b.within;
          part = b.part;
          same = opened ∙ rw (ne_eqb (number_at w xs (from + w * k)) 0 (λ z. e (number_is ∙ z))) refl;
        }

  pub leaves : count ≤ k → Outer w xs to
  leaves h =
      record { stand = b.stand; within = b.within; same = b.same ∙ none_decides w count xs from k (fault_among w xs (left b.stand)) h }
