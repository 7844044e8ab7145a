-- `c_api::aspa_lookup` meets its contract. Assumes nothing.
use Rattle.registers.specs.Registers.{lent}
use Rattle.effects.proofs.Looking.{cut_is}
use Rattle.c_api.proofs.aspa_lookup.Goals as goal

pub part_words-requires : goal.part_words-requires
part_words-requires c =
    let a = c.args in
    let q = cut_is (lent a.public.now a.overrides.now) a.source a.customer in
    rw c.find_list.ensures (q.order, q.small)
