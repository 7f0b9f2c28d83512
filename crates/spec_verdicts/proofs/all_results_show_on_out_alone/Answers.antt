use Rattle.spec_verdicts.proofs.OffOut.{same_off_out}
use Rattle.spec_verdicts.proofs.all_results_show_on_out_alone.Goals as goal

pub returns : goal.returns
returns c = same_off_out
