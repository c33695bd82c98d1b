use Rattle.std.proofs.Common.{◌≡◌, false}
use Rattle.std.specs.List.{list_any, range_with_len}
use Rattle.coff_records.specs.ObjectFile.{section_name_of}
use Rattle.coff_aux.specs.Comdats.{is_comdat}
use Rattle.module_view.specs.ModuleDirectives.{holds_directives}
use Rattle.module_view.specs.Resources.{holds_resources}
use Rattle.section_rules.specs.SoughtNames.{is_linker_section}
use Rattle.module_view.specs.Opening.{is_long}
use Rattle.module_view.proofs.sections.judge_sections.Given as goal

abbrev pub invariant-loop-index : goal.invariant-loop-index
invariant-loop-index l = record {
  linker : list_any (λ section. is_linker_section (section_name_of l.object section)) (range_with_len 1 l.index) ≡ false;
  long : l.long ≡ list_any (λ section. is_long (section_name_of l.object section)) (range_with_len 1 l.index);
  comdat : l.long ≡ false → l.has_comdat ≡ list_any (is_comdat l.object) (range_with_len 1 l.index);
  directives : l.long ≡ false → l.has_directives ≡ list_any (holds_directives l.object) (range_with_len 1 l.index);
  resources : l.long ≡ false → l.has_resources ≡ list_any (holds_resources l.object) (range_with_len 1 l.index);
}
