-- `of` moves two fields, and what they own goes with them.
use mathlib.Core.Path.{◌≡◌, refl}
use prog.Wp.{Tables}
use contract.Running.{tables, tables_of}
use denote.Triple.Spec.{triple_of}
use denote.Triple.Table.{entered}
use Rattle.node_for_c.proofs.Conversion.{Conversion, converts}
use Rattle.node_for_c.specs.contracts.registry.Registry as Registry
use Rattle.node_for_c.specs.contracts.handle.Handle as Handle
use Rattle.node_for_c.specs.contracts.node.NodeHandle as NodeHandle
use Rattle.node_for_c.specs.contracts.node.NodeHandle.of as F
use Rattle.node_for_c.specs.contracts.node.NodeHandle.of.Key.{name as #self}
use Rattle.node_for_c.proofs.node.NodeHandle.of.Statement as stated
use Rattle.node_for_c.proofs.node.NodeHandle.of.Code as code

abbrev moved : Conversion Registry.the_row (Handle.the_row Registry.the_row) NodeHandle.the_row
moved = record {
  as_handle = λ h. h;
  into = λ h. record { ptr = h.ptr; alloc = h.alloc; kept = h.kept };
  owned = λ h vs. refl;
  still_owned = λ h vs. refl;
  last = λ h. tt;
  nothing_left = λ h f. refl;
}

pub of_spec : {M : Type 1} → stated.statement M
unfolding tables_of
of_spec 𝓤 𝓛 𝓜 𝓡 wired =
    let 𝓣 : Tables 𝓤 𝓛.H = tables_of 𝓤 𝓛.H 𝓜 (tables 𝓤 𝓛.H 𝓜 𝓡 𝓡.env) in
    entered 𝓤 𝓛.H (triple_of 𝓛 F.signature (F.spec 𝓛 𝓜.mem 𝓡.returns)) 𝓣.C 𝓣.Λ #self code.function
    (code.unfolded 𝓤 𝓛.H 𝓜 𝓡 wired)
    (converts Registry.the_row (Handle.the_row Registry.the_row) NodeHandle.the_row moved
    (λ h n. n.kept ≡ h.kept) (λ h. refl) 𝓛 𝓣 (Handle.the_type Registry.the_row).name NodeHandle.the_type.name)
