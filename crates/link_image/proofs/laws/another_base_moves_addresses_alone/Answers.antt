use Rattle.link_image.proofs.PieceMoves.{fix_moves, byte_kept, image_stays}
use Rattle.link_image.proofs.laws.another_base_moves_addresses_alone.Goals as goal

pub returns-clause-fields : goal.returns-clause-fields
returns-clause-fields c = λ link fixups rows layout base other k i have low lt within based.
    fix_moves link fixups rows layout have base other low k i lt within based

pub returns-clause-elsewhere : goal.returns-clause-elsewhere
returns-clause-elsewhere c = λ link fixups rows layout base other k byte have lt outside.
    byte_kept link fixups rows layout have base other k byte lt outside

pub returns-clause-without : goal.returns-clause-without
returns-clause-without c = λ link fixups rows layout tables base other have none.
    image_stays link fixups rows layout have tables none base other
