-- A word read as bytes in lowercase hex, bytes as such text, and equal words. Bytes are ASCII: `0` is 48, `9` is 57, `a` is 97, `f` is 102, `-` is 45.
use Rattle.std.specs.Prelude.{ℕ, ◌+◌, ◌-◌, ◌*◌, ◌/◌, ◌%◌, Bool, true, false, cond, List, [], ◌∷◌, Option, Some, None, ltb, eqb, length, get_or}
use Rattle.std.proofs.lemmas.List.Edits.{sets}

-- The value of a hex digit; 16 of any other byte.
unfoldable pub hex_value : ℕ → ℕ
hex_value b = cond (ltb b 48) 16 (cond (ltb b 58) (b - 48) (cond (ltb b 97) 16 (cond (ltb b 103) (b - 87) 16)))

-- The byte that two digits stand for; 256 where one is none.
unfoldable pub pair_value : ℕ → ℕ → ℕ
pair_value a b = cond (ltb 15 (hex_value a)) 256 (cond (ltb 15 (hex_value b)) 256 (hex_value a * 16 + hex_value b))

-- The bytes, two digits each; a digit that is left alone is no byte.
unfoldable pub pairs : List ℕ → List ℕ
pairs [] = []
pairs (a ∷ []) = 256 ∷ []
pairs (a ∷ (b ∷ bs)) = pair_value a b ∷ pairs bs

unfoldable pub all_bytes : List ℕ → Bool
all_bytes [] = true
all_bytes (v ∷ vs) = cond (ltb 255 v) false (all_bytes vs)

-- The values before the first that is no byte.
unfoldable pub bytes_before : List ℕ → List ℕ
bytes_before [] = []
bytes_before (v ∷ vs) = cond (ltb 255 v) [] (v ∷ bytes_before vs)

abbrev pub hex_of : List ℕ → Option ℕ
hex_of word = cond (all_bytes (pairs word)) (Some (length (pairs word))) None

-- `-` is no bytes; an empty word is none either, and bad.
abbrev pub bytes_of : List ℕ → Option ℕ
bytes_of word =
    cond (eqb (length word) 0) None
    (cond (eqb (length word) 1) (cond (eqb (get_or word 0 0) 45) (Some 0) None)
    (hex_of word))

-- What reading leaves in the buffer.
abbrev pub hex_stored : List ℕ → List ℕ → List ℕ
hex_stored buffer word = sets buffer 0 (bytes_before (pairs word))

abbrev pub bytes_stored : List ℕ → List ℕ → List ℕ
bytes_stored buffer word =
    cond (eqb (length word) 0) buffer (cond (eqb (length word) 1) buffer (hex_stored buffer word))

abbrev pub read_count : Option ℕ → ℕ
read_count (Some n) = n
read_count None = 0

-- The bytes of a word that is read.
abbrev pub bytes_in : List ℕ → List ℕ
bytes_in word = cond (eqb (length word) 1) [] (pairs word)

abbrev pub if_bytes : {A : Type 0} → Option ℕ → A → A → A
if_bytes (Some n) a other = a
if_bytes None a other = other

-- The digit of a value below 16.
abbrev pub hex_digit : ℕ → ℕ
hex_digit v = cond (ltb v 10) (48 + v) (87 + v)

-- Bytes as text, two digits each.
unfoldable pub hex_text : List ℕ → List ℕ
hex_text [] = []
hex_text (b ∷ bs) = hex_digit (b / 16) ∷ (hex_digit (b % 16) ∷ hex_text bs)

unfoldable pub same_bytes : List ℕ → List ℕ → Bool
same_bytes [] [] = true
same_bytes [] (b ∷ bs) = false
same_bytes (a ∷ as') [] = false
same_bytes (a ∷ as') (b ∷ bs) = cond (eqb a b) (same_bytes as' bs) false
