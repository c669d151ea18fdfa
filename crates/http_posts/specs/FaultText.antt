-- The text of a fault.
use Rattle.std.specs.Prelude.{ℕ, List, codes}
use Rattle.http_posts.specs.declared.fault.PostError.{PostError}
use Rattle.http_posts.specs.declared.fault.PostError.TheVariants.{Failed, OutOfMemory}

-- the name of its variant
abbrev pub post_error_text : PostError → List ℕ
post_error_text Failed = codes "Failed"
post_error_text OutOfMemory = codes "OutOfMemory"
