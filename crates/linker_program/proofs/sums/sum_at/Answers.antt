use Rattle.pe_loader.specs.Loading.{RefusesLoad}
use Rattle.pe_loader.specs.declared.error.ShowError.TheVariants as error
use Rattle.image_show.proofs.LoadLemmas.{not_loaded}
use Rattle.linker_program.proofs.GeneratedLemmas.{faulty_not_loaded, no_sum}
use Rattle.linker_program.proofs.sums.sum_at.Goals as goal

pub returns-in-Err-BadImage : goal.returns-in-Err-BadImage
returns-in-Err-BadImage c =
    let image = c.args.image.now in
    let refused : RefusesLoad image c.args.base (error.BadImage c.in-Err-BadImage.field-0-0) = rw c.in-Err-BadImage.field-0-is at c.in-Err-BadImage.ensures.refused in
    no_sum image c.args.base (faulty_not_loaded image c.args.base c.in-Err-BadImage.field-0-0 refused)

pub returns-in-Err-BasePermit : goal.returns-in-Err-BasePermit
returns-in-Err-BasePermit c =
    let image = c.args.image.now in
    let refused : RefusesLoad image c.args.base error.BasePermit = rw c.in-Err-BasePermit.field-0-is at c.in-Err-BasePermit.ensures.refused in
    no_sum image c.args.base (not_loaded image c.args.base refused.1)
