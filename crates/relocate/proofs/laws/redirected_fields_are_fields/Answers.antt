use Rattle.relocate.proofs.RedirectLemmas.{fields_redirected, patchable_redirected}
use Rattle.relocate.proofs.laws.redirected_fields_are_fields.Goals as goal

pub returns-clause-fields : goal.returns-clause-fields
returns-clause-fields c = fields_redirected

pub returns-clause-patchable : goal.returns-clause-patchable
returns-clause-patchable c = patchable_redirected
