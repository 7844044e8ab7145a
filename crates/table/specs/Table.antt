-- A packed table of words ("Tables"): word 0 the number of entries, word 1 the number of body words, a slot for
-- each entry, the bodies, zeros to the end. A slot is h head words, the start of the entry's body, the body's length, and t tail words.
use Rattle.std.specs.Prelude.{◌≡◌, Bool, true, cond, ◌&&◌, List, [], ◌∷◌, ◌++◌, ℕ, zero, suc, ◌+◌, ◌-◌, ◌*◌, ◌≤◌, eqb, leb, length, take, drop, get_or, replicate}

pub record Entry : Type 0 where
  pub head : List ℕ
  pub body : List ℕ
  pub tail : List ℕ

abbrev pub entry : List ℕ → List ℕ → List ℕ → Entry
entry head body tail = record { head = head; body = body; tail = tail }

-- The entry at i; past the end, an empty one.
abbrev pub entry_at : List Entry → ℕ → Entry
entry_at es i = get_or es i (entry [] [] [])

-- The words before the slots: the two numbers.
abbrev pub counters : ℕ
counters = 2

-- The words of a slot between head and tail: start and length of the body.
abbrev pub span : ℕ
span = 2

-- The words of a slot.
abbrev pub width : ℕ → ℕ → ℕ
width h t = h + span + t

-- The slots of entries, where the bodies before them take o words.
unfoldable pub slots : ℕ → List Entry → List ℕ
slots o [] = []
slots o (e ∷ es) = e.head ++ (o ∷ (length e.body ∷ (e.tail ++ slots (o + length e.body) es)))

unfoldable pub bodies : List Entry → List ℕ
bodies [] = []
bodies (e ∷ es) = e.body ++ bodies es

-- Zeros behind l, up to size words.
unfoldable pub pad : ℕ → List ℕ → List ℕ
pad size l = l ++ replicate (size - length l) 0

-- The table of size words that holds the entries.
unfoldable pub encode : ℕ → List Entry → List ℕ
encode size es = pad size (length es ∷ (length (bodies es) ∷ (slots 0 es ++ bodies es)))

-- The m entries whose slots begin xs and whose bodies begin ys. A slot's start is not looked at.
unfoldable pub decode_slots : ℕ → ℕ → ℕ → List ℕ → List ℕ → List Entry
decode_slots h t zero xs ys = []
decode_slots h t (suc m) xs ys =
    let c = get_or xs (h + 1) 0 in
    let es = decode_slots h t m (drop (width h t) xs) (drop c ys) in
    record { head = take h xs; body = take c ys; tail = take t (drop (h + span) xs) } ∷ es

-- The entries that a table holds.
unfoldable pub decode : ℕ → ℕ → List ℕ → List Entry
decode h t ws = decode_slots h t (get_or ws 0 0) (drop counters ws) (drop (counters + get_or ws 0 0 * width h t) ws)

-- ---- the word rules

-- The m slots that begin xs have the starts that their counts make from o on, and the counts end at b.
unfoldable pub slots_ok : ℕ → ℕ → ℕ → ℕ → ℕ → List ℕ → Bool
slots_ok h t zero o b xs = eqb o b
slots_ok h t (suc m) o b xs =
    let r = slots_ok h t m (o + get_or xs (h + 1) 0) b (drop (width h t) xs) in
    eqb (get_or xs h 0) o && (leb (get_or xs (h + 1) 0) (b - o) && r)

unfoldable pub all_zero : List ℕ → Bool
all_zero [] = true
all_zero (x ∷ xs) = eqb x 0 && all_zero xs

-- Slots and bodies fit, the starts and counts are right, and zeros follow to the end.
unfoldable pub well_formed : ℕ → ℕ → List ℕ → Bool
well_formed h t ws =
    let n = get_or ws 0 0 in
    let b = get_or ws 1 0 in
    let end = counters + n * width h t + b in
    leb counters (length ws) && (leb end (length ws) && (slots_ok h t n 0 b (drop counters ws) && all_zero (drop end ws)))

-- Each head has h words and each tail t.
unfoldable pub Wide : ℕ → ℕ → List Entry → Type 0
Wide h t [] = Unit
Wide h t (e ∷ es) = ((length e.head ≡ h) × (length e.tail ≡ t)) × Wide h t es

-- What well-formedness comes to: the words are the table of the entries that they hold.
pub record Sound (h t : ℕ) (ws : List ℕ) : Type 0 where
  pub wide : Wide h t (decode h t ws)
  pub same : ws ≡ encode (length ws) (decode h t ws)
  pub fits : counters + length (decode h t ws) * width h t + length (bodies (decode h t ws)) ≤ length ws

-- ---- changes

unfoldable pub insert_at : ℕ → Entry → List Entry → List Entry
insert_at i e es = take i es ++ (e ∷ drop i es)

unfoldable pub remove_at : ℕ → List Entry → List Entry
remove_at i es = take i es ++ drop (suc i) es

-- The table with an entry in at i.
abbrev pub inserted : ℕ → ℕ → List ℕ → ℕ → Entry → List ℕ
inserted h t ws i e = encode (length ws) (insert_at i e (decode h t ws))

-- The table without the entry at i.
abbrev pub removed : ℕ → ℕ → List ℕ → ℕ → List ℕ
removed h t ws i = encode (length ws) (remove_at i (decode h t ws))

-- Where the body of the entry at i starts, or would.
unfoldable pub start_of : ℕ → List Entry → ℕ
start_of i es = length (bodies (take i es))

-- ---- the entries whose head word at a column is a value go out

-- Those that stay.
unfoldable pub staying_entries : ℕ → ℕ → List Entry → List Entry
staying_entries column value [] = []
staying_entries column value (e ∷ es) =
    cond (eqb (get_or e.head column 0) value) (staying_entries column value es) (e ∷ staying_entries column value es)

-- How many go.
unfoldable pub gone_entries : ℕ → ℕ → List Entry → ℕ
gone_entries column value [] = 0
gone_entries column value (e ∷ es) =
    cond (eqb (get_or e.head column 0) value) (suc (gone_entries column value es)) (gone_entries column value es)

-- The table of those that stay.
abbrev pub cleared : ℕ → ℕ → List ℕ → ℕ → ℕ → List ℕ
cleared h t ws column value = encode (length ws) (staying_entries column value (decode h t ws))
