use Rattle.std.proofs.Common.{◌≡◌, Bool, true, false, ◌&&◌, not, refl, sym, ◌∙◌}
use Rattle.lib_reader.specs.MemberName.{names_an_offset}
use Rattle.lib_reader.specs.MemberFault.{lacks_long_name}
use Rattle.lib_reader.proofs.member_name.member_name.Goals as goal

-- a special name refers to no long name
no_offset : (slash special missing : Bool) → special ≡ true → false ≡ ((slash && not special) && missing)
no_offset true special missing is = rw is refl
no_offset false special missing is = refl

pub returns-then-names_special-clause-lacks : goal.returns-then-names_special-clause-lacks
unfolding lacks_long_name names_an_offset
returns-then-names_special-clause-lacks c =
    no_offset _ _ _ (sym c.names_special.ensures ∙ c.if-names_special.true)
