-- An AS_PATH attribute value as a list of bytes, and the segments in it ("Reading the attribute"; RFC 4271, section 4.3 b).
-- w is the width of a number in bytes.
use Rattle.std.specs.Prelude.{ℕ, zero, suc, ◌+◌, ◌*◌, ◌/◌, ◌^◌, List, [], ◌∷◌, map, cond, length, get_or, leb}

-- A number has 4 bytes (RFC 6793).
abbrev pub number_bytes : ℕ
number_bytes = 4

-- The number of w bytes at offset p, high byte first.
unfoldable pub number_at : ℕ → List ℕ → ℕ → ℕ
number_at zero xs p = 0
number_at (suc w) xs p = get_or xs p 0 * 256 ^ w + number_at w xs (p + 1)

-- The n numbers from offset p on.
unfoldable pub numbers_at : ℕ → ℕ → List ℕ → ℕ → List ℕ
numbers_at w zero xs p = []
numbers_at w (suc n) xs p = number_at w xs p ∷ numbers_at w n xs (p + w)

-- The numbers of a segment's body.
abbrev pub body_numbers : List ℕ → List ℕ
body_numbers body = numbers_at number_bytes (length body / number_bytes) body 0

-- Of the segment at offset p: its type byte, its count byte, and where the next segment starts.
abbrev pub type_at : List ℕ → ℕ → ℕ
type_at xs p = get_or xs p 0

abbrev pub count_at : List ℕ → ℕ → ℕ
count_at xs p = get_or xs (p + 1) 0

abbrev pub end_of : ℕ → List ℕ → ℕ → ℕ
end_of w xs p = p + 2 + w * count_at xs p

-- Where the segments start, from offset p on. The first argument bounds how many there are.
unfoldable pub starts_from : ℕ → ℕ → List ℕ → ℕ → List ℕ
starts_from zero w xs p = []
starts_from (suc f) w xs p = cond (leb (length xs) p) [] (p ∷ starts_from f w xs (end_of w xs p))

-- Each segment has at least a byte, so there are at most as many as bytes.
unfoldable pub starts : ℕ → List ℕ → List ℕ
starts w xs = starts_from (length xs) w xs 0

pub record Segment : Type 0 where
  pub kind : ℕ
  pub numbers : List ℕ

abbrev pub segment_at : ℕ → List ℕ → ℕ → Segment
segment_at w xs p = record { kind = type_at xs p; numbers = numbers_at w (count_at xs p) xs (p + 2) }

unfoldable pub segments : ℕ → List ℕ → List Segment
segments w xs = map (segment_at w xs) (starts w xs)
