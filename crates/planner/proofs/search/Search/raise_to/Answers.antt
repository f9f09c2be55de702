use Rattle.planner.specs.Searches.{search_state}
use Rattle.planner.proofs.Scans.{raised_by}
use Rattle.planner.proofs.search.Search.raise_to.Goals as goal

pub returns : goal.returns
returns c m found = raised_by m (search_state c.args.self.now) c.args.least found (cc (c.max-self.ensures, c.min-to.ensures, c.unwrap_or.ensures, c.limit-limit.ensures))
