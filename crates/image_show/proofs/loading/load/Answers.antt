use Rattle.pe_loader.specs.Loading.{RefusesLoad}
use Rattle.pe_loader.specs.declared.error.ShowError.TheVariants as error
use Rattle.image_show.proofs.LoadLemmas.{memory_loaded, loaded_low, bad_base}
use Rattle.image_show.proofs.loading.load.Goals as goal

pub returns-in-Ok-clause-memory : goal.returns-in-Ok-clause-memory
returns-in-Ok-clause-memory c = memory_loaded c.args.image.now c.args.base c.in-Ok.made.memory.items c.in-Ok.ensures.loaded.memory

pub returns-in-Ok-clause-low : goal.returns-in-Ok-clause-low
returns-in-Ok-clause-low c = loaded_low c.args.image.now c.args.base c.in-Ok.made.memory.items c.in-Ok.ensures.loaded.memory

pub returns-in-Err-BasePermit-clause-refused : goal.returns-in-Err-BasePermit-clause-refused
returns-in-Err-BasePermit-clause-refused c =
    let refused : RefusesLoad c.args.image.now c.args.base error.BasePermit = rw c.in-Err-BasePermit.field-0-is at c.in-Err-BasePermit.ensures.refused in
    bad_base c.args.image.now c.args.base refused.0 refused.1
