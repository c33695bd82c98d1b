use Rattle.image_writer.proofs.CallerLemmas.{laid_out, appended_laid_out, rewritten_laid_out}
use Rattle.image_writer.proofs.laws.layouts_can_be_written.Goals as goal

pub returns-clause-placed : goal.returns-clause-placed
returns-clause-placed c = laid_out

pub returns-clause-appended : goal.returns-clause-appended
returns-clause-appended c = appended_laid_out

pub returns-clause-rewritten : goal.returns-clause-rewritten
returns-clause-rewritten c = rewritten_laid_out
