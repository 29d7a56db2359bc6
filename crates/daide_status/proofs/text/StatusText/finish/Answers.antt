use Rattle.std.proofs.Common.{◌++◌, sym, ap, ◌∙◌}
use Rattle.std.proofs.lemmas.List.{append-nil}
use Rattle.daide_status.specs.StatusTexts.{status_end, status_view}
use Rattle.daide_status.proofs.text.StatusText.finish.Goals as goal
use Rattle.daide_status.proofs.text.StatusText.finish.Goals.{in-Table, in-Json+in_ok-put_json_end-in-Json, in-Prometheus+in_ok-put_all_samples-in-Prometheus}

pub returns-clause-text : goal.returns-clause-text
returns-clause-text g c =
    let view = status_view c.args.self in
    elim c.match-self.branch [
      | in-Table w ↦
          ap (λ s. s.text.items) w.self-is ∙ sym (append-nil view.text) ∙ ap (λ f. view.text ++ status_end f view) (sym w.in-Table.is)
      | in-Json+in_ok-put_json_end-in-Json w ↦
          ap (λ s. s.text.items) w.self-is ∙ w.in_ok-put_json_end-in-Json.ensures
          ∙ ap (λ f. view.text ++ status_end f view) (sym w.in-Json.is)
      | in-Prometheus+in_ok-put_all_samples-in-Prometheus w ↦
          ap (λ s. s.text.items) w.self-is ∙ w.in_ok-put_all_samples-in-Prometheus.ensures
          ∙ ap (λ f. view.text ++ status_end f view) (sym w.in-Prometheus.is)
    ]
