-- Keep, Drop and Re-judge do what is said of them. Assumes nothing.
use mathlib.Core.Path.{refl}
use Rattle.ledger.proofs.Changes.{drops_own, drops_no_other, drops_one}
use Rattle.ledger.proofs.Laws.{rules_apart}
use Rattle.effects.specs.Calls.{kept_route}
use Rattle.effects.specs.Laws.{CallLaws}
use Rattle.effects.proofs.Answers.{keep_answers, keep_stores, keep_holds, keep_rules, rejudge_rewrites, rejudge_count, rejudge_twice}

pub call_laws : CallLaws
call_laws =
    record {
      keep_answers = λ reg led k a h. keep_answers reg led k h;
      keep_stores = λ reg led k a h. keep_stores reg led k h;
      keep_holds = λ reg led k a h. keep_holds reg led k h;
      keep_rules = λ reg led k a h. keep_rules reg led k h;
      keep_apart = λ reg led k a h. rules_apart (kept_route reg k) (keep_rules reg led k h);
      origins_unkept = λ number role neighbour a b o p path. refl;
      origins_unstamped = λ a b o p r. refl;
      drops_own = drops_own;
      drops_no_other = drops_no_other;
      drops_one = drops_one;
      rejudge_rewrites = λ reg led n h i w. rejudge_rewrites reg led h i w;
      rejudge_count = λ reg led n h. rejudge_count reg led h;
      rejudge_twice =
          λ reg led w.
          rejudge_twice reg led (record { long = w.registers_long; ok = w.registers_ok }) (record { long = w.ledger_long; ok = w.ledger-ok });
    }
