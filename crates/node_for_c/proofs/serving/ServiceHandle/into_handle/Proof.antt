-- `into_handle` moves two fields, and what they own goes with them.
use mathlib.Core.Path.{◌≡◌, refl}
use prog.Wp.{Tables}
use contract.Running.{tables, tables_of}
use denote.Triple.Spec.{triple_of}
use denote.Triple.Table.{entered}
use Rattle.node_for_c.proofs.Conversion.{Conversion, converts}
use Rattle.http_steps.specs.contracts.service.Service as Service
use Rattle.node_for_c.specs.contracts.handle.Handle as Handle
use Rattle.node_for_c.specs.contracts.serving.ServiceHandle as ServiceHandle
use Rattle.node_for_c.specs.contracts.serving.ServiceHandle.into_handle as F
use Rattle.node_for_c.specs.contracts.serving.ServiceHandle.into_handle.Key.{name as #self}
use Rattle.node_for_c.proofs.serving.ServiceHandle.into_handle.Statement as stated
use Rattle.node_for_c.proofs.serving.ServiceHandle.into_handle.Code as code

abbrev moved : Conversion Service.the_row ServiceHandle.the_row (Handle.the_row Service.the_row)
moved = record {
  as_handle = λ n. record { ptr = n.ptr; alloc = n.alloc; kept = n.kept };
  into = λ n. record { ptr = n.ptr; alloc = n.alloc; kept = n.kept };
  owned = λ n vs. refl;
  still_owned = λ n vs. refl;
  last = λ n. tt;
  nothing_left = λ n f. refl;
}

pub into_handle_spec : {M : Type 1} → stated.statement M
unfolding tables_of
into_handle_spec 𝓤 𝓛 𝓜 𝓡 wired =
    let 𝓣 : Tables 𝓤 𝓛.H = tables_of 𝓤 𝓛.H 𝓜 (tables 𝓤 𝓛.H 𝓜 𝓡 𝓡.env) in
    entered 𝓤 𝓛.H (triple_of 𝓛 F.signature (F.spec 𝓛 𝓜.mem 𝓡.returns)) 𝓣.C 𝓣.Λ #self code.function
    (code.unfolded 𝓤 𝓛.H 𝓜 𝓡 wired)
    (converts Service.the_row ServiceHandle.the_row (Handle.the_row Service.the_row) moved
    (λ n h. h.kept ≡ n.kept) (λ n. refl) 𝓛 𝓣 ServiceHandle.the_type.name (Handle.the_type Service.the_row).name)
