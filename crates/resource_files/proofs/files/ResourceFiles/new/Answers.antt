use Rattle.resource_files.proofs.KeptLemmas.{kept_none}
use Rattle.resource_files.proofs.files.ResourceFiles.new.Goals as goal

pub returns-clause-kept : goal.returns-clause-kept
returns-clause-kept c = kept_none _ c.new.ensures.items c.new-2.ensures.empty
