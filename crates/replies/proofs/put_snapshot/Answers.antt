use Rattle.calls.specs.Commands.{most_output}
use Rattle.replies.proofs.Snapshots.{writes_snapshot}
use Rattle.replies.proofs.put_snapshot.Goals as goal

pub returns-clause-wrote : goal.returns-clause-wrote
returns-clause-wrote c =
    writes_snapshot c.args.register.now c.args.ledger.now most_output c.args.capacity c.no_output-output.ensures c.min.ensures c.write-written.ensures
    c.put_written.ensures.wrote
