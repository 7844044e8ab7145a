-- A route's slot, word by word. Assumes nothing.
use Prim.Native.Nat.{ℕ, ◌+◌, ◌<◌, ◌≤◌}
use mathlib.Core.Path.{◌≡◌, ◌∙◌}
use mathlib.Core.List.{List}
use native.Mathlib.Omega.{arith}
use lib.ListN.{length, get_or, take, drop, length-drop}
use Rattle.std.proofs.lemmas.List.{get_or-take, get_or-drop, length-take-le}
use Rattle.std.proofs.lemmas.Slice.Eq.{text_from_reads}
use Rattle.ledger.specs.Routes.{route_width, slot_at, routes_of}
use Rattle.ledger.specs.Routes.{role_word, neighbour_word, ground_word, verdict_word, a_word, b_word, start_word, count_word}
use Rattle.ledger.proofs.Entries.{slot_within, number_is, role_is, neighbour_is, ground_is, verdict_is, a_is, b_is, path_start, path_length}
use Rattle.routes.specs.Slots.{SlotIn, slot_words}

module _ {ws : List ℕ} {i : ℕ} (p : SlotIn ws i) where
  -- It lies within the words.
  pub slot_fits : slot_at i + route_width ≤ length ws
  slot_fits = slot_within ws p.sound i p.within

  word : (k : ℕ) → k < route_width → {x : ℕ} → get_or ws (slot_at i + k) 0 ≡ x → get_or (take route_width (drop (slot_at i) ws)) k 0 ≡ x
  word k m e = get_or-take route_width (drop (slot_at i) ws) k 0 m ∙ get_or-drop (slot_at i) ws k 0 ∙ e

  -- The words of a slot, where n words from its first on are taken.
  pub slot_is : {n : ℕ} → n ≡ route_width → take n (drop (slot_at i) ws) ≡ slot_words (routes_of ws) i
  slot_is e =
      let z : slot_at i + 0 ≡ slot_at i = omega arith in
      rw e
      (text_from_reads _ _ (length-take-le route_width _ (omega (arith, length-drop (slot_at i) ws, slot_fits))) (
        word 0 (omega arith) (rw z (number_is ws p.sound i p.within)),
        (
          word role_word (omega arith) (role_is ws p.sound i p.within),
          (
            word neighbour_word (omega arith) (neighbour_is ws p.sound i p.within),
            (
              word ground_word (omega arith) (ground_is ws p.sound i p.within),
              (
                word verdict_word (omega arith) (verdict_is ws p.sound i p.within),
                (
                  word a_word (omega arith) (a_is ws p.sound i p.within),
                  (
                    word b_word (omega arith) (b_is ws p.sound i p.within),
                    (word start_word (omega arith) (path_start ws p.sound i p.within), (word count_word (omega arith) (path_length ws p.sound i p.within), tt)),
                  ),
                ),
              ),
            ),
          ),
        ),
      ))
