-- The statements on look-up of specs/Laws.antt. Assumes nothing.
use mathlib.Core.Path.{refl, sym}
use Rattle.halves.specs.Halves.{middle}
use Rattle.halves.proofs.Positions.{alike, first_decides}
use Rattle.halves.proofs.Steps.{narrows}
use Rattle.register.specs.Register.{records_of, record_at, key_of}
use Rattle.register.specs.Laws.{FindLaws}
use Rattle.register.proofs.Holding.{ordered}
use Rattle.register.proofs.Looking.{begins}

pub find_laws : FindLaws
find_laws = record {
  record_begins = λ ws e customer source. begins (records_of ws) (ordered ws e) customer source;
  customer_begins = λ ws e customer.
      alike (begins (records_of ws) (ordered ws e) customer 0) (λ i h. sym (first_decides (record_at (records_of ws) i).customer (record_at (records_of ws) i).source customer));
  step_keeps = λ ws e customer source r some inside h.
      let n = narrows r some (key_of (record_at (records_of ws) (middle r))) (customer, source) in
      (n.half, n.keeps _ _ _ (begins (records_of ws) (ordered ws e) customer source) refl inside h);
}
