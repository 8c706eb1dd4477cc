use Rattle.std.proofs.Common.{ap, sym, ◌∙◌, subst}
use Rattle.std.proofs.lemmas.Result.{on_ok_weaker}
use Rattle.world.specs.declared.step.Step.{Step}
use Rattle.world.specs.Cells.{StepsWorld, machine_of}
use Rattle.world.specs.Machine.{has_step}
use Rattle.world.proofs.MachineSteps.{destage_steps, destage_within, land_steps, land_within}
use Rattle.world.proofs.cache.World.take.Goals as goal

pub land-requires : goal.land-requires
land-requires c =
    let old = c.args.self.now in
    let events = c.args.events.now in
    land_within events c.in-Land.id c.in-Land.sector old c.requires.lawful c.requires.sectors
    (ap (has_step events (machine_of old)) (sym c.in-Land.is) ∙ c.requires.may)

pub destage-requires : goal.destage-requires
destage-requires c =
    let old = c.args.self.now in
    let events = c.args.events.now in
    destage_within events c.in-Destage.sector old
    (ap (has_step events (machine_of old)) (sym c.in-Destage.is) ∙ c.requires.may)

pub returns-in-Land-clause-taken : goal.returns-in-Land-clause-taken
returns-in-Land-clause-taken c =
    let old = c.args.self.now in
    let events = c.args.events.now in
    let at = c.in-Land.sector in
    let taken = ap (has_step events (machine_of old)) (sym c.in-Land.is) ∙ c.requires.may in
    let Taken = λ (step : Step). StepsWorld events step old c.land.new.self in
    on_ok_weaker c.land.result
    (λ landed. subst Taken (sym c.in-Land.is)
    (land_steps events c.in-Land.id at old c.land.new.self taken
    (land_within events c.in-Land.id at old c.requires.lawful c.requires.sectors taken)
    (landed ∙ rw c.place.ensures)))
    c.land.ensures.landed

pub returns-in-Destage-clause-taken : goal.returns-in-Destage-clause-taken
returns-in-Destage-clause-taken c =
    let old = c.args.self.now in
    let events = c.args.events.now in
    let at = c.in-Destage.sector in
    let taken = ap (has_step events (machine_of old)) (sym c.in-Destage.is) ∙ c.requires.may in
    let Taken = λ (step : Step). StepsWorld events step old c.destage.new.self in
    subst Taken (sym c.in-Destage.is)
    (destage_steps events at old c.destage.new.self taken
    (destage_within events at old taken) c.requires.sectors c.destage.ensures.cells
    c.destage.ensures.image)
