use Rattle.part_files.proofs.Ready.{begun_kept}
use Rattle.part_files.proofs.part_file.begin.Goals as goal

pub returns : goal.returns
returns g c =
    begun_kept _ _ _ _ c.args.first.now c.in_ok-set_len.ensures.cut c.in_ok-write_all.ensures.bytes c.in_ok-sync_file.ensures
