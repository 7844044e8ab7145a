-- All that is written for an input, however it is cut into pieces ("The console").
use Rattle.std.specs.Prelude.{ℕ, zero, suc, ◌≡◌, cond, List, [], ◌∷◌, ◌++◌, eqb, length, drop, Some}
use Rattle.lines.specs.Words.{split}
use Rattle.history.specs.Calls.{blank}
use Rattle.calls.specs.Performing.{after}
use Rattle.protocol.specs.Feeding.{answer_line, joined, command_in, Session, fed, fed_text, fed_bytes, last_text}

-- ---- what is promised: each line answered in its order, and the last too if it is not empty

abbrev pub grown_by : Session → List ℕ → Session
grown_by s part = record { tables = s.tables; line = joined s.line part }

abbrev pub answered : Session → Session
answered s = record { tables = after s.tables (command_in s.line); line = Some [] }

-- The first line goes on from what stands in the session.
unfoldable pub answers_to : Session → List (List ℕ) → List ℕ
answers_to s [] = last_text s
answers_to s (line ∷ []) = last_text (grown_by s line)
answers_to s (line ∷ (next ∷ lines)) =
    answer_line s.tables (command_in (joined s.line line)) ++ answers_to (answered (grown_by s line)) (next ∷ lines)

-- All three tables empty, and no byte yet.
abbrev pub start : Session
start = record { tables = blank; line = Some [] }

abbrev pub console_text : List ℕ → List ℕ
console_text input = answers_to start (split 10 input)

-- ---- what is done: each piece fed until its bytes are used, and at the end the last line finished

-- A piece of at most so many bytes.
unfoldable pub fed_all : ℕ → Session → List ℕ → Session
fed_all zero s piece = s
fed_all (suc most) s piece = cond (eqb (length piece) 0) s (fed_all most (fed s piece) (drop (fed_bytes piece) piece))

unfoldable pub fed_all_text : ℕ → Session → List ℕ → List ℕ
fed_all_text zero s piece = []
fed_all_text (suc most) s piece =
    cond (eqb (length piece) 0) [] (fed_text s piece ++ fed_all_text most (fed s piece) (drop (fed_bytes piece) piece))

unfoldable pub served : Session → List (List ℕ) → List ℕ
served s [] = last_text s
served s (piece ∷ pieces) = fed_all_text (length piece) s piece ++ served (fed_all (length piece) s piece) pieces

unfoldable pub joined_pieces : List (List ℕ) → List ℕ
joined_pieces [] = []
joined_pieces (piece ∷ pieces) = piece ++ joined_pieces pieces

-- However the input is cut, what is written is the same.
abbrev pub AnyCut : Type 0
AnyCut = (pieces : List (List ℕ)) → served start pieces ≡ console_text (joined_pieces pieces)
