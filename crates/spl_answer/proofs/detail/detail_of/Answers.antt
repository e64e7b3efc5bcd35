use Rattle.std.proofs.Common.{ap, ◌∙◌}
use Rattle.serde_json.{specs.{Data.object, View.members_view}, proofs.Views.view-Object}
use Rattle.spl_answer.{specs.Json.{put_all, fields_to_management, fields_from_mark, detail_value}, proofs.Keys.detail_in_order}
use Rattle.spl_answer.proofs.detail.detail_of.Goals as goal

pub returns : goal.returns
unfolding detail_value
returns c =
    let a = c.args in
    let first = fields_to_management a.definition.now a.hash.now a.lifecycle a.accepted.now in
    let second = fields_from_mark a.definition.now a.mark a.requester.now in
    let put_first = c.in_ok-put_to_management.ensures ∙ ap (λ es. put_all first (members_view es)) c.new-map.ensures.empty in
    let in_order = detail_in_order a.definition.now a.hash.now a.lifecycle a.mark a.accepted.now a.requester.now in
    view-Object _ ∙ ap object (c.in_ok-put_from_mark.ensures ∙ ap (put_all second) put_first ∙ in_order)
