-- `storing::search` meets its contract. Assumes nothing.
use native.Mathlib.Omega.{arith}
use Rattle.halves.proofs.Searches.{searchable}
use Rattle.ledger.specs.Routes.{route_head, route_tail}
use Rattle.ledger.proofs.Holding.{sound}
use Rattle.ledger.proofs.Looking.{finds}
use Rattle.storing.proofs.search.Goals as goal

pub search-requires : goal.search-requires
search-requires c = searchable route_head route_tail _ (sound _ c.requires) (omega arith)

pub returns : goal.returns
returns c = finds c.args.led.now c.requires c.args.number.0 c.search.ensures
