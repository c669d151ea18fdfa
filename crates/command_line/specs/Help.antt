-- How much help words ask for.
use Rattle.std.specs.Prelude.{ℕ, List}
use Rattle.command_line.specs.declared.help.Extent.{Extent}
use Rattle.command_line.specs.declared.help.Extent.TheVariants.{Short, Whole}

-- of two texts the one of this extent
abbrev pub picked : Extent → List ℕ → List ℕ → List ℕ
picked Short short whole = short
picked Whole short whole = whole
