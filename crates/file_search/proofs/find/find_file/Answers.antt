use Rattle.std.proofs.Common.{◌<◌, ◌∷◌, ◌+◌, length, map, refl, arith}
use Rattle.link_files.specs.Outside.{files_of}
use Rattle.link_words.specs.SettingsView.{text_of, texts_of}
use Rattle.file_search.specs.FileNames.{in_folder, tried_names}
use Rattle.file_search.proofs.FindLemmas.{tried_first, within_folders, folder_named, names_no_more, none_tried, none_further, gives_here, stops_here, found_nowhere}
use Rattle.file_search.proofs.find.find_file.Goals as goal

-- ---- as it is given

pub returns-in-Ok-Some : goal.returns-in-Ok-Some
returns-in-Ok-Some g c =
    let folders = texts_of c.args.folders.now in
    let name = c.args.name.now in
    let total = c.args.inputs.now in
    let before = files_of g.F.Files.store g.F.Files.read_faults g.F.Files.write_faults c.args.files.now in
    let after = files_of g.F.Files.store g.F.Files.read_faults g.F.Files.write_faults c.load_named.new.files in
    let first = tried_first folders name in
    gives_here folders name (tried_names folders name) 0 total total c.load_named.new.inputs before before after name _ refl first.0 first.1 (none_tried (tried_names folders name) total before)
    (rw c.in-Ok-Some.field-0-is at c.in-Ok-Some.ensures)

pub returns-in-Err : goal.returns-in-Err
returns-in-Err g c =
    let folders = texts_of c.args.folders.now in
    let name = c.args.name.now in
    let total = c.args.inputs.now in
    let before = files_of g.F.Files.store g.F.Files.read_faults g.F.Files.write_faults c.args.files.now in
    let after = files_of g.F.Files.store g.F.Files.read_faults g.F.Files.write_faults c.load_named.new.files in
    let first = tried_first folders name in
    stops_here folders name (tried_names folders name) 0 total total c.load_named.new.inputs before before after name c.in-Err.stop refl first.0 first.1 (none_tried (tried_names folders name) total before) c.in-Err.ensures

-- ---- in a folder

pub loop-index-init : goal.loop-index-init
loop-index-init g c =
    let name = c.args.name.now in
    let total = c.args.inputs.now in
    let names = name ∷ map (in_folder name) (texts_of c.searched_folders-searched.result.now) in
    let before = files_of g.F.Files.store g.F.Files.read_faults g.F.Files.write_faults c.args.files.now in
    let after = files_of g.F.Files.store g.F.Files.read_faults g.F.Files.write_faults c.load_named.new.files in
    none_further names 0 total total c.load_named.new.inputs before before after name refl (none_tried names total before)
    (rw c.in-Ok-None.field-0-is at c.in-Ok-None.ensures)

pub load_in_folder-requires-clause-reads_below : goal.load_in_folder-requires-clause-reads_below
load_in_folder-requires-clause-reads_below g c =
    omega (arith, c.loop-index.invariant.files.reads, c.requires.reads_below)

pub load_in_folder-requires-clause-writes_below : goal.load_in_folder-requires-clause-writes_below
load_in_folder-requires-clause-writes_below g c =
    omega (arith, c.loop-index.invariant.files.writes, c.requires.writes_below)

pub returns-in-Ok-Some-load_in_folder : goal.returns-in-Ok-Some-load_in_folder
returns-in-Ok-Some-load_in_folder g c =
    let folders = texts_of c.args.folders.now in
    let name = c.args.name.now in
    let total = c.args.inputs.now in
    let searched = c.searched_folders-searched.result.now in
    let names = name ∷ map (in_folder name) (texts_of searched) in
    let index = c.loop-index.index in
    let lt : index < length searched = omega arith in
    let before = files_of g.F.Files.store g.F.Files.read_faults g.F.Files.write_faults c.args.files.now in
    let after = files_of g.F.Files.store g.F.Files.read_faults g.F.Files.write_faults c.loop-index.files in
    let later = files_of g.F.Files.store g.F.Files.read_faults g.F.Files.write_faults c.load_in_folder.new.files in
    gives_here folders name names (index + 1) total c.loop-index.inputs c.load_in_folder.new.inputs before after later _ _ c.searched_folders-searched.ensures (within_folders text_of searched name index lt) (folder_named text_of searched name index _ lt) c.loop-index.invariant
    (rw c.in-Ok-Some-load_in_folder.field-0-is at c.in-Ok-Some-load_in_folder.ensures)

pub returns-in-Err-load_in_folder : goal.returns-in-Err-load_in_folder
returns-in-Err-load_in_folder g c =
    let folders = texts_of c.args.folders.now in
    let name = c.args.name.now in
    let total = c.args.inputs.now in
    let searched = c.searched_folders-searched.result.now in
    let names = name ∷ map (in_folder name) (texts_of searched) in
    let index = c.loop-index.index in
    let lt : index < length searched = omega arith in
    let before = files_of g.F.Files.store g.F.Files.read_faults g.F.Files.write_faults c.args.files.now in
    let after = files_of g.F.Files.store g.F.Files.read_faults g.F.Files.write_faults c.loop-index.files in
    let later = files_of g.F.Files.store g.F.Files.read_faults g.F.Files.write_faults c.load_in_folder.new.files in
    stops_here folders name names (index + 1) total c.loop-index.inputs c.load_in_folder.new.inputs before after later _ c.in-Err-load_in_folder.stop c.searched_folders-searched.ensures (within_folders text_of searched name index lt) (folder_named text_of searched name index _ lt) c.loop-index.invariant c.in-Err-load_in_folder.ensures

pub loop-index-preserved : goal.loop-index-preserved
loop-index-preserved g c =
    let name = c.args.name.now in
    let total = c.args.inputs.now in
    let searched = c.searched_folders-searched.result.now in
    let names = name ∷ map (in_folder name) (texts_of searched) in
    let index = c.loop-index.index in
    let lt : index < length searched = omega arith in
    let before = files_of g.F.Files.store g.F.Files.read_faults g.F.Files.write_faults c.args.files.now in
    let after = files_of g.F.Files.store g.F.Files.read_faults g.F.Files.write_faults c.loop-index.files in
    let later = files_of g.F.Files.store g.F.Files.read_faults g.F.Files.write_faults c.load_in_folder.new.files in
    none_further names (index + 1) total c.loop-index.inputs c.load_in_folder.new.inputs before after later _ (folder_named text_of searched name index _ lt) c.loop-index.invariant
    (rw c.in-Ok-None-load_in_folder.field-0-is at c.in-Ok-None-load_in_folder.ensures)

-- ---- nowhere

pub returns : goal.returns
returns g c =
    let folders = texts_of c.args.folders.now in
    let name = c.args.name.now in
    let searched = c.searched_folders-searched.result.now in
    let names = name ∷ map (in_folder name) (texts_of searched) in
    let before = files_of g.F.Files.store g.F.Files.read_faults g.F.Files.write_faults c.args.files.now in
    let after = files_of g.F.Files.store g.F.Files.read_faults g.F.Files.write_faults c.loop-index.files in
    found_nowhere folders name names (c.loop-index.index + 1) c.args.inputs.now c.loop-index.inputs before after c.not_found.result c.searched_folders-searched.ensures (names_no_more text_of searched name c.loop-index.index (omega arith)) c.not_found.ensures c.loop-index.invariant
