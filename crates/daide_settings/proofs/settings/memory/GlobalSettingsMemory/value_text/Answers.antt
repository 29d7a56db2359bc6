use Rattle.std.proofs.Common.{IsOk, rules}
use Rattle.std.proofs.lemmas.Fmt.{contents_after_writes}
use Rattle.daide_settings.proofs.Common.{◌≡◌, ◌++◌, string_bytes, ap, ◌∙◌}
use Rattle.daide_settings.proofs.settings.memory.GlobalSettingsMemory.value_text.Goals as goal

pub returns-in-Ok-clause-text : goal.returns-in-Ok-clause-text
returns-in-Ok-clause-text c =
    let ok : IsOk c.fmt.result = search rules in
    let (text, written, is) = c.fmt.ensures.text c.new-f.ensures.plain ok in
    let same : string_bytes c.into_inner.result ≡ text =
    ap string_bytes c.into_inner.ensures ∙ contents_after_writes _ string_bytes (λ w l v t. t) _ text _ written.wrote ∙ ap (λ l. l ++ text) (ap string_bytes c.new-f.ensures.writer ∙ c.in_ok-with_capacity.ensures.bytes) in
    rw same is
