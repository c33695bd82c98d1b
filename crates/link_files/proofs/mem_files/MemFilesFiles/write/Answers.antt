use Rattle.std.proofs.Common.{◌/◌, length, rules}
use Rattle.link_files.proofs.mem_files.MemFilesFiles.write.Goals as goal

pub returns-then-fails_now-clause-writes : goal.returns-then-fails_now-clause-writes
returns-then-fails_now-clause-writes c =
    record { failed = search rules; torn = (length c.args.bytes.now / 2, search rules) }
