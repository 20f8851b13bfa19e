use Rattle.op_codec.specs.Paths.{path_bytes}
use Rattle.op_codec.proofs.Appending.{on_err, keeps_front, appended_both}
use Rattle.op_codec.proofs.messages.append_give.Goals as goal

pub returns-clause-err : goal.returns-clause-err
returns-clause-err c =
    on_err c.append_snapshot.result
    (keeps_front c.args.out.now.items _ c.append_path.new.out.items c.append_snapshot.new.out.items
    (appended_both c.args.out.now.items c.append_id.new.out.items c.append_path.new.out.items c.args.give.now.id (path_bytes c.args.give.now.path) c.in_ok-append_id.ensures.ok c.in_ok-append_path.ensures.ok))
    c.append_snapshot.ensures.err
