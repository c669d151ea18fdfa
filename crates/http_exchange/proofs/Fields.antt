-- Fields of a reply, as they are put in one behind the other.
use Rattle.std.proofs.Common.{◌≡◌, ◌∙◌, ap, ap₂, [], codes}
use Rattle.http_header.specs.FieldValue.{FieldValue, plain_value}
use Rattle.http_header.specs.HeaderMap.{Entries, insert}
use Rattle.operator_page.specs.declared.page.TheConstants.{POLICY}
use Rattle.http_exchange.specs.Labels.{content_text, type_fields, with_policy}
use Rattle.http_routes.specs.declared.table.Content.{Content}

pub types_put : (content : Content) (none typed safe : Entries FieldValue) (kind nosniff : FieldValue) → none ≡ []
    → kind ≡ plain_value (content_text content) → typed ≡ insert none (codes "content-type") kind
    → nosniff ≡ plain_value (codes "nosniff") → safe ≡ insert typed (codes "x-content-type-options") nosniff
    → safe ≡ type_fields content
types_put content none typed safe kind nosniff e0 ek e1 en e2 =
    let t = e1 ∙ ap (λ f. insert f (codes "content-type") kind) e0 ∙ ap (λ v. insert [] (codes "content-type") v) ek in
    e2 ∙ ap (λ f. insert f (codes "x-content-type-options") nosniff) t
    ∙ ap (λ v. insert (insert [] (codes "content-type") (plain_value (content_text content)))
    (codes "x-content-type-options") v) en

pub policy_put : (fields first second all : Entries FieldValue) (policy store referrer : FieldValue)
    → policy ≡ plain_value POLICY.now → first ≡ insert fields (codes "content-security-policy") policy
    → store ≡ plain_value (codes "no-store") → second ≡ insert first (codes "cache-control") store
    → referrer ≡ plain_value (codes "no-referrer") → all ≡ insert second (codes "referrer-policy") referrer
    → all ≡ with_policy fields
policy_put fields first second all policy store referrer e1 e2 e3 e4 e5 e6 =
    e6 ∙ ap₂ (λ (f : Entries FieldValue) (v : FieldValue). insert f (codes "referrer-policy") v)
    (e4 ∙ ap₂ (λ (f : Entries FieldValue) (v : FieldValue). insert f (codes "cache-control") v)
    (e2 ∙ ap (λ v. insert fields (codes "content-security-policy") v) e1) e3) e5
