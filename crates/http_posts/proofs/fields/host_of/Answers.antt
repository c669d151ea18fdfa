use Rattle.std.proofs.Common.{ℕ, ◌++◌, codes, decimal, string_bytes, ◌≡◌, IfOk, ap, ap₂, sym, subst, ◌∙◌}
use Rattle.std.specs.Net.Addr.{ipv4_octets, ipv6_segments}
use Rattle.std.specs.Net.Text.{ipv4_text, ipv6_text}
use Rattle.std.specs.declared.net.ipv4_addr.Ipv4Addr.{Ipv4Addr}
use Rattle.std.specs.declared.net.ipv6_addr.Ipv6Addr.{Ipv6Addr}
use Rattle.http_posts.specs.Posts.{host_text}
use Rattle.http_posts.proofs.fields.host_of.Goals as goal

pub returns-in-V4 : goal.returns-in-V4
returns-in-V4 c =
    subst (λ text. IfOk c.format.result (λ told. string_bytes told ≡ text))
    (ap₂ (λ (ip : Ipv4Addr) (port : ℕ). ipv4_text (ipv4_octets ip) ++ (codes ":" ++ decimal port)) c.ip.ensures
    c.port-port.ensures ∙ ap host_text (sym c.in-V4.is))
    c.format.ensures.ok

pub returns-in-V6 : goal.returns-in-V6
returns-in-V6 c =
    subst (λ text. IfOk c.format-in-V6.result (λ told. string_bytes told ≡ text))
    (ap₂ (λ (ip : Ipv6Addr) (port : ℕ). codes "[" ++ (ipv6_text (ipv6_segments ip) ++ (codes "]:" ++ decimal port)))
    c.ip-in-V6.ensures c.port-port-in-V6.ensures ∙ ap host_text (sym c.in-V6.is))
    c.format-in-V6.ensures.ok
