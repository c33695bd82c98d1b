use Rattle.std.proofs.Common.{◌∷◌, [], ◌++◌, length, map, cond, ap, ◌∙◌, arith}
use Rattle.std.proofs.lemmas.List.{get_or_default}
use Rattle.link_base.proofs.RangeLemmas.{kept_grows}
use Rattle.section_group.specs.BarePieces.{bare}
use Rattle.section_group.specs.PieceContents.{piece_contents}
use Rattle.module_view.specs.Module.{ModuleView, no_module}
use Rattle.synthetic_sections.specs.LinkerPieces.{thunk_piece, thunk_bytes}
use Rattle.link_imports.specs.ImportPieces.{imports_code, has_thunk, jump}
use Rattle.link_imports.proofs.pieces.push_thunks.Goals as goal

pub loop-import-preserved : goal.loop-import-preserved
loop-import-preserved c =
    let modules = c.args.modules.now in
    let k = c.loop-import.import in
    let m = c.index-modules-import.result in
    let read = c.index-modules-import.is ∙ get_or_default modules k m no_module (omega arith) in
    let old = c.args.pieces.now.items in
    let now = c.loop-import.pieces.items in
    let after = c.push_thunk_of.new.pieces.items in
    record {
      pieces =
          kept_grows (thunk_piece (length modules)) (has_thunk modules) 0 k k (map bare old) (map bare now) (map bare after) (omega arith) c.loop-import.invariant.pieces
          (c.in_ok-push_thunk_of.ensures.pieces ∙ ap (λ (view : ModuleView). map bare now ++ cond (imports_code view.imported) (thunk_piece (length modules) k ∷ []) []) read);
      contents =
          kept_grows jump (has_thunk modules) 0 k k (map piece_contents old) (map piece_contents now) (map piece_contents after) (omega arith) c.loop-import.invariant.contents
          (c.in_ok-push_thunk_of.ensures.contents ∙ ap (λ (view : ModuleView). map piece_contents now ++ cond (imports_code view.imported) (thunk_bytes ∷ []) []) read);
    }
