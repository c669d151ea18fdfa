-- What a clause reads of lines that are looked at in turn.
use Rattle.thread_checks.specs.declared.scan.Scan.{Scan}
use Rattle.thread_checks.specs.Scans as scans

abbrev pub scan_value : Scan → scans.Scan
scan_value s = record { number = s.number; worked = s.worked; spread = s.spread; rounds = s.rounds }
