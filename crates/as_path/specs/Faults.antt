-- The first fault of an attribute, with its offset: rows 12 to 16 ("Reading the attribute").
use Rattle.std.specs.Prelude.{ℕ, zero, suc, ◌+◌, ◌-◌, List, [], ◌∷◌, cond, length, ltb, eqb, None, Option, Some}
use Rattle.types.specs.declared.Fault.TheVariants.{CutShort, UnknownType, Confederation, NoNumbers, ZeroNumber}
use Rattle.as_path.specs.Segments.{number_at, type_at, count_at, end_of, starts}
use Rattle.types.specs.declared.Fault.{Fault}

-- Row 16: the first of the n numbers from offset p on that is 0, at its first byte; if there is none, what follows them.
unfoldable pub numbers_fault : ℕ → ℕ → List ℕ → ℕ → Option (Fault × ℕ) → Option (Fault × ℕ)
numbers_fault w zero xs p next = next
numbers_fault w (suc n) xs p next = cond (eqb (number_at w xs p) 0) (Some (ZeroNumber, p)) (numbers_fault w n xs (p + w) next)

-- The segment at offset p: one byte left (12), type (13, 14), count zero (15), body short (12), numbers (16); if none of these, what follows it.
unfoldable pub segment_fault : ℕ → List ℕ → ℕ → Option (Fault × ℕ) → Option (Fault × ℕ)
segment_fault w xs p next =
    cond (ltb (length xs - p) 2) (Some (CutShort, p))
    (cond (eqb (type_at xs p) 0) (Some (UnknownType, p))
    (cond (ltb 4 (type_at xs p)) (Some (UnknownType, p))
    (cond (ltb 2 (type_at xs p)) (Some (Confederation, p))
    (cond (eqb (count_at xs p) 0) (Some (NoNumbers, p))
    (cond (ltb (length xs) (end_of w xs p)) (Some (CutShort, p))
    (numbers_fault w (count_at xs p) xs (p + 2) next))))))

-- The first faulty segment decides.
unfoldable pub fault_among : ℕ → List ℕ → List ℕ → Option (Fault × ℕ)
fault_among w xs [] = None
fault_among w xs (p ∷ ps) = segment_fault w xs p (fault_among w xs ps)

unfoldable pub first_fault : ℕ → List ℕ → Option (Fault × ℕ)
first_fault w xs = fault_among w xs (starts w xs)
