use Rattle.std.proofs.Common.{◌≡◌, [], ◌∷◌, ◌++◌, length, length-append, refl, arith}
use Rattle.link_base.specs.Bytes.{number_bytes}
use Rattle.link_base.specs.Fields.{fields}
use Rattle.link_base.specs.declared.numbers.LeNumber.TheVariants.{U32}
use Rattle.debug_entry.specs.DebugDirectory.{debug_data}
use Rattle.debug_entry.proofs.directory.data_length.Goals as goal

pub returns : goal.returns
unfolding debug_data number_bytes
returns c = λ identifier long.
    let pdb = c.args.pdb.now in
    let age = fields (U32 1 ∷ []) in
    let four : length age ≡ 4 = refl in
    omega (arith, c.len.ensures, long, four, length-append identifier (age ++ (pdb ++ 0 ∷ [])), length-append age (pdb ++ 0 ∷ []), length-append pdb (0 ∷ []))
