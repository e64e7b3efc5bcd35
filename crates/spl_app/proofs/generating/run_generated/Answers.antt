use Rattle.std.proofs.Common.{◌≡◌, ◌<◌, ◌-◌, ◌^◌, ℕ, Some, length, take, drop, ◌∙◌, ap, arith}
use Rattle.spl_edge.specs.Devices.{SourceView}
use Rattle.spl_gen.specs.Generated.{generated_text}
use Rattle.spl_app.{specs.Asked.{generated_lines, no_links}, proofs.{Gens.{began_generated, none_generated}, Statuses.{memory_status, named, no_lie}}}
use Rattle.spl_app.proofs.generating.run_generated.Goals as goal
use Rattle.spl_world.specs.Links.{MayBeDue}

pub status_of-requires : goal.status_of-requires
status_of-requires g c =
    named c.run_in_memory-ended.result _ _ _ _
    (λ from to sent got i lies below. absurd (no_lie (MayBeDue no_links.hello from to) sent got lies)) c.run_in_memory-ended.ensures.ran.why

pub returns-in_default-clause-began : goal.returns-in_default-clause-began
returns-in_default-clause-began g c = λ view shelf fabric. none_generated c.args.n c.args.seed view _ _ shelf fabric c.requires.unpicked

pub returns-in_default-schedule-clause-began : goal.returns-in_default-schedule-clause-began
returns-in_default-schedule-clause-began g c = λ view shelf fabric. none_generated c.args.n c.args.seed view _ _ shelf fabric c.requires.unpicked

pub returns-clause-began : goal.returns-clause-began
returns-clause-began g c =
    let laws = c.generated_texts_are_lines.ensures in
    let lt : c.args.n < 2 ^ 64 = omega arith in
    let count = laws.count c.args.n c.args.seed lt in
    let skips : c.first_lines.result ≡ length (generated_lines c.args.n c.args.seed) - 9 = omega (arith, count, c.first_lines.ensures) in
    let source = c.new-source.result in
    let later = c.run_in_memory-ended.new.source in
    let s : SourceView = record { gave = take source.at source.text; left = Some (drop source.at source.text); faults = 0 } in
    let t : SourceView = record { gave = take later.at later.text; left = Some (drop later.at later.text); faults = 0 } in
    let is : drop source.at source.text ≡ generated_text c.args.n c.args.seed =
    ap (λ (k : ℕ). drop k source.text) c.new-source.ensures.at ∙ c.new-source.ensures.text ∙ c.in-Ok-schedule.ensures in
    began_generated c.args.n c.args.seed s t c.run_in_memory-ended.ensures.taken is (laws.short c.args.n c.args.seed (omega arith))
    (λ rose. omega (arith, rose)) (laws.good c.args.n c.args.seed lt) (laws.rest c.args.n c.args.seed)
    c.run_in_memory-ended.result c.status_of.result _ _ _ _ c.in-Ok.registry c.first_lines.result c.in-Ok.ensures skips
    (record {
      text =
          c.run_in_memory-ended.ensures.text;
      ran = c.run_in_memory-ended.ensures.ran;
      report = c.run_in_memory-ended.ensures.report;
      sound = c.run_in_memory-ended.ensures.sound;
      status = c.status_of.ensures;
    })

pub returns-clause-unarmed : goal.returns-clause-unarmed
returns-clause-unarmed g c =
    λ some. c.run_in_memory-ended.ensures.onward.1
    (λ is. some (memory_status c.in-Ok.registry c.run_in_memory-ended.result c.status_of.result is c.status_of.ensures))
