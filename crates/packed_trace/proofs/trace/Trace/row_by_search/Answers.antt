use Rattle.packed_trace.proofs.LastRows.{row_added}
use Rattle.packed_trace.proofs.trace.Trace.row_by_search.Goals as goal

pub returns-clause-ok : goal.returns-clause-ok
returns-clause-ok c = row_added c.args.self.now.rows _ _ _ c.add_row.result c.in_ok-row.ensures c.add_row.ensures.ok
