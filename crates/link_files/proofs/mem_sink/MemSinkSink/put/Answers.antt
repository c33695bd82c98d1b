use Rattle.std.proofs.Common.{◌/◌, length, rules}
use Rattle.link_files.proofs.mem_sink.MemSinkSink.put.Goals as goal

pub returns-then-fails_now-clause-puts : goal.returns-then-fails_now-clause-puts
returns-then-fails_now-clause-puts c =
    record { failed = search rules; torn = (length c.args.bytes.now / 2, search rules) }
