-- What the errors of a wire print.
use Rattle.std.specs.Prelude.{ℕ, List, codes}
use Rattle.gossip.specs.declared.wire.WireError.{WireError}
use Rattle.gossip.specs.declared.wire.WireError.TheVariants.{Full, NoPeer, Failed, OutOfMemory}

abbrev pub wire_error_text : WireError → List ℕ
wire_error_text Full = codes "Full"
wire_error_text NoPeer = codes "NoPeer"
wire_error_text Failed = codes "Failed"
wire_error_text OutOfMemory = codes "OutOfMemory"
