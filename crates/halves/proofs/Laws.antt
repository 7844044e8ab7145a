-- The statements of specs/Laws.antt. Assumes nothing.
use Rattle.halves.specs.Laws.{SearchLaws}
use Rattle.halves.proofs.Counts.{over, under, eleven}
use Rattle.halves.proofs.Searches.{found, few}

pub search_laws : SearchLaws
search_laws = record { found = found; few = few; over = over; under = under; eleven = eleven }
