-- What the model replies to a call, and what an answer shows of such a reply.
use Rattle.std.specs.Prelude.{ℕ, Bool, true, false, ◌||◌, eqb, Err, Ok, Result}
use Rattle.types.specs.declared.Refusal.{Refusal}
use Rattle.types.specs.Numbers.{refusal_number}
use Rattle.history.specs.Calls.{Reply, filed, removed, cleared, kept, rejudged}
use Rattle.types.specs.declared.Answer.{Answer}
use Rattle.types.specs.declared.Filed.{Filed}
use Rattle.types.specs.declared.Filed.TheVariants.{New}
use Rattle.types.specs.declared.Filed.TheVariants.{Replaced}

-- Of a keeping and a re-judging only that it is done.
pub data ModelReply : Type 0 where
  new replaced done : ModelReply
  gone : ℕ → ModelReply
  refused : Refusal → ModelReply

-- What each answer shows: of a keeping, that it is done, or the refusal.
abbrev pub shown_filed : Result Filed Refusal → ModelReply
shown_filed (Ok New) = new
shown_filed (Ok Replaced) = replaced
shown_filed (Err r) = refused r

abbrev pub shown_removal : Result Unit Refusal → ModelReply
shown_removal (Ok u) = done
shown_removal (Err r) = refused r

abbrev pub shown_cleared : Result ℕ Refusal → ModelReply
shown_cleared (Ok n) = gone n
shown_cleared (Err r) = refused r

abbrev pub shown_judged : Result Answer Refusal → ModelReply
shown_judged (Ok a) = done
shown_judged (Err r) = refused r

abbrev pub shown_rejudged : Result ℕ Refusal → ModelReply
shown_rejudged (Ok n) = done
shown_rejudged (Err r) = refused r

abbrev pub shown : Reply → ModelReply
shown (filed x) = shown_filed x
shown (removed x) = shown_removal x
shown (cleared x) = shown_cleared x
shown (kept x) = shown_judged x
shown (rejudged x) = shown_rejudged x

-- Refused for room: by 8 or by 20.
abbrev pub for_room : ModelReply → Bool
for_room new = false
for_room replaced = false
for_room done = false
for_room (gone n) = false
for_room (refused r) = eqb (refusal_number r) 8 || eqb (refusal_number r) 20

-- Accepted: not refused.
abbrev pub accepted : ModelReply → Bool
accepted new = true
accepted replaced = true
accepted done = true
accepted (gone n) = true
accepted (refused r) = false
