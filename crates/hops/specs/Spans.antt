-- The list of a source for a customer, as a part of a register's words ("P6", the look-up).
use Rattle.std.specs.Prelude.{ℕ, ◌+◌, ◌*◌, cond, List, length, take}
use Rattle.table.specs.Table.{counters}
use Rattle.rules.specs.Records.{Record}
use Rattle.register.specs.Register.{record_width, record_at, position_of, listed}
use Rattle.register.specs.Calls.{holds_record}
use Rattle.hops.specs.declared.Span.{Span}

abbrev pub span : ℕ → ℕ → Span
span from to = record { from = from; to = to }

-- The lists stand in the records' order behind the slots.
abbrev pub start_of : List Record → ℕ → ℕ
start_of rs i = counters + length rs * record_width + listed (take i rs)

abbrev pub span_at : List Record → ℕ → Span
span_at rs i = span (start_of rs i) (start_of rs i + length (record_at rs i).providers)

-- Both ends are 0 where there is no such list.
unfoldable pub span_of : List Record → ℕ → ℕ → Span
span_of rs source customer = cond (holds_record customer source rs) (span_at rs (position_of customer source rs)) (span 0 0)
