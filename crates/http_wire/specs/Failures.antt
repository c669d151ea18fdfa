-- How a message that was sent may fail, where its node's port is known.
use Rattle.std.specs.Prelude.{◌≡◌, ◌⊎◌}
use Rattle.gossip.specs.declared.wire.WireError.{WireError}
use Rattle.gossip.specs.declared.wire.WireError.TheVariants.{Failed, OutOfMemory}
use Rattle.http_posts.specs.declared.fault.PostError.{PostError}
use Rattle.http_posts.specs.declared.fault.PostError.TheVariants as posts

-- out of memory by its name, or a call that failed otherwise
abbrev pub IsFailure : WireError → Type 0
IsFailure e = (e ≡ Failed) ⊎ (e ≡ OutOfMemory)

-- as a message fails that isn't posted
abbrev pub failure_of : PostError → WireError
failure_of posts.Failed = Failed
failure_of posts.OutOfMemory = OutOfMemory
