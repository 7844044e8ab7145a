-- Sixteen paths of the most numbers fill the ledger. Assumes nothing.
use Prim.Native.Nat.{ℕ, zero, suc, ◌+◌, ◌≤◌, ◌<◌}
use mathlib.Core.Path.{◌≡◌, refl, ap, ◌∙◌}
use mathlib.Core.Bool.{Bool, true, false, not, ◌&&◌}
use mathlib.Core.List.{List, [], ◌∷◌, ◌++◌, map}
use native.Mathlib.Omega.{arith}
use lib.Dec.{ltb}
use lib.ListN.{length, take}
use Rattle.types.specs.declared.Origin.TheVariants.{Public, Overrides}
use Rattle.types.specs.declared.Refusal.TheVariants.{RoutesFull}
use Rattle.types.specs.Rows.{first_given}
use Rattle.as_path.specs.Segments.{segments, starts, starts_from, numbers_at, number_at}
use Rattle.as_path.specs.Faults.{first_fault, fault_among, segment_fault, numbers_fault}
use Rattle.as_path.specs.Grounds.{has_set, ground_of}
use Rattle.as_path.specs.Merging.{numbers_in, runs_after, merge_runs, merged_path}
use Rattle.as_path.specs.Reading.{most_numbers, merged, content_of}
use Rattle.table.specs.Table.{slots, bodies, pad, encode}
use Rattle.keyed.specs.Keyed.{holds, put}
use Rattle.rules.specs.Draft.{each}
use Rattle.rules.specs.Judging.{most_bytes}
use Rattle.rules.specs.Vectors.{bytes, sequence, repeated, pair, pairs_then}
use Rattle.rules.proofs.Drafting.{each_no}
use Rattle.rules.proofs.Sequences.{none_read}
use Rattle.rules.proofs.Edges.{length_then, pairs_content}
use Rattle.ledger.specs.Routes.{ledger_of}
use Rattle.effects.specs.Calls.{keeping}
use Rattle.history.specs.Calls.{Call, keep, blank, call_at, KeptRoute, known, last, said}
use Rattle.history.specs.Replies.{ModelReply, done, refused, shown}
use Rattle.history.specs.Model.{Model, holds_kept, put_kept, path_numbers, room_for_routes, refusal, next, after, reply_to, written}
use Rattle.history.specs.Sanity.{longest, longests, sixteen_and}
use Rattle.history.proofs.Simulating.{no_lists, blank_formed, blank_empty, history_replies, history_written}

-- What each of them is read as.
abbrev path : List ℕ
path = repeated 256 (20 ∷ 30 ∷ [])

content : content_of 3 20 (pairs_then []) ≡ merged path
unfolding has_set numbers_in repeated runs_after merge_runs
content = pairs_content 3 [] [] refl none_read refl

short : ltb most_bytes (length (pairs_then [])) ≡ false
unfolding bytes
short = ap (ltb most_bytes) (length_then 256 pair [])

few : ltb most_numbers (length path) ≡ false
unfolding repeated
few = refl

-- Routes 0 to n - 1, and the model that holds them.
unfoldable routes : ℕ → List KeptRoute
routes zero = []
routes (suc n) = put_kept (record { number = n; role = 3; neighbour = 20; ground_code = 0; path = path }) (routes n)

abbrev held : ℕ → Model
held n = record { lists = no_lists; routes = routes n }

-- Route i is not taken, and there is room for it; so for all sixteen.
abbrev fits : ℕ → Bool
fits i = not (holds_kept i (routes i)) && room_for_routes (routes (suc i))

all_fit : each fits 0 16 ≡ true
unfolding each routes holds put room_for_routes path_numbers repeated
all_fit = refl

missed : (i : ℕ) → i < 16 → fits i ≡ false → ⊥
missed i h e = let z : ◌≡◌ {A = ℕ} 0 1 = let y = each_no fits 0 16 i (omega arith) (omega arith) e in cc (all_fit, y) in omega arith

one_fits : (i : ℕ) → i < 16 → (holds_kept i (routes i) ≡ false) × (room_for_routes (routes (suc i)) ≡ true)
one_fits i h = go (holds_kept i (routes i)) (room_for_routes (routes (suc i))) refl refl
  where
    go : (a b : Bool) → holds_kept i (routes i) ≡ a → room_for_routes (routes (suc i)) ≡ b → (a ≡ false) × (b ≡ true)
    go false true e f = (refl, refl)
    go false false e f = absurd (missed i h (rw (e, f)))
    go true b e f = absurd (missed i h (rw e))

-- One after the other goes in.
one_more : (i : ℕ) → i < 16 → next (held i) (keep (longest i)) ≡ held (suc i)
unfolding refusal first_given routes
one_more i h = let f = one_fits i h in rw (content, short, few, f.0, f.1)

call-at : (x n i k : ℕ) (l : List Call) → i < n → x + i ≡ k → call_at (longests x n ++ l) i ≡ keep (longest k)
unfolding longests
call-at x zero i k l h e = absurd (omega arith)
call-at x (suc n) zero k l h e = ap (λ k. keep (longest k)) (omega arith)
call-at x (suc n) (suc i) k l h e = call-at (suc x) n i k l (omega arith) (omega arith)

all_in : (l : List Call) (i : ℕ) → i ≤ 16 → after blank (longests 0 16 ++ l) i ≡ held i
unfolding after routes
all_in l zero h = λ t. record {
  lists = record { public = blank_empty.0 Public t; overrides = blank_empty.0 Overrides t };
  routes = map known (blank_empty.1 t);
}
all_in l (suc i) h = (λ t. next (all_in l i (omega arith) t) (call-at 0 16 i i l (omega arith) (omega arith) t)) ∙ one_more i (omega arith)

-- So the ledger's two counters are these,
counters : take 2 (written (held 16)).ledger ≡ 16 ∷ 8192 ∷ []
unfolding written ledger_of encode pad slots bodies routes put repeated
counters = refl

pub sixteen_fill : take 2 (last blank (longests 0 16)).ledger ≡ 16 ∷ 8192 ∷ []
unfolding longests
sixteen_fill = ap (λ t. take 2 t.ledger) (history_written blank blank_formed (longests 0 16) ∙ ap written (all_in [] 16 (omega arith))) ∙ counters

-- and this is what follows.
then : (attribute : List ℕ) (r : ModelReply) → reply_to (held 16) (keep (keeping 16 3 20 attribute)) ≡ r → shown (said blank (sixteen_and attribute) 16) ≡ r
unfolding longests
then attribute r e =
    history_replies blank blank_formed (sixteen_and attribute) 16
    ∙ ap (λ m. reply_to m (keep (keeping 16 3 20 attribute))) (all_in (keep (keeping 16 3 20 attribute) ∷ []) 16 (omega arith))
    ∙ e

pub one_number_more : shown (said blank (sixteen_and (sequence (20 ∷ []))) 16) ≡ refused RoutesFull
unfolding refusal first_given holds put routes repeated room_for_routes path_numbers content_of first_fault fault_among segment_fault numbers_fault starts starts_from ground_of segments numbers_at number_at numbers_in runs_after merge_runs merged_path has_set bytes
one_number_more = then (sequence (20 ∷ [])) (refused RoutesFull) refl

pub ground_fits : shown (said blank (sixteen_and []) 16) ≡ done
unfolding refusal first_given holds put routes repeated room_for_routes path_numbers content_of first_fault fault_among starts starts_from ground_of segments
ground_fits = then [] done refl
