-- `finding::search` meets its contract. Assumes nothing.
use native.Mathlib.Omega.{arith}
use Rattle.halves.proofs.Searches.{searchable}
use Rattle.register.specs.Register.{record_head, record_tail}
use Rattle.register.proofs.Holding.{sound}
use Rattle.register.proofs.Looking.{finds}
use Rattle.finding.proofs.search.Goals as goal

pub search-requires : goal.search-requires
search-requires c = searchable record_head record_tail _ (sound _ c.args.register.well_formed) (omega arith)

pub returns : goal.returns
returns c =
    finds c.args.register.words.now c.args.register.well_formed c.args.customer.0 c.args.source c.args.from c.requires c.search.ensures
