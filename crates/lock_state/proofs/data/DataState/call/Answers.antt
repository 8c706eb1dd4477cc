use Rattle.std.proofs.Common.{◌≡◌, ◌++◌, ◌∷◌, [], ℕ, List, OnOk, sym, ap, ◌∙◌, subst}
use Rattle.bio.specs.Possible.{values_of}
use Rattle.bio.specs.Content.{put}
use Rattle.bio.specs.declared.request.Bio.{Bio}
use Rattle.lock_state.specs.declared.note.Done.{Done}
use Rattle.lock_state.specs.Calls.{Data, done_call}
use Rattle.lock_state.proofs.LogLock.{kept_call, on_ok}
use Rattle.lock_state.proofs.data.DataState.call.Goals as goal

pub invariant_of-self-2 : goal.invariant_of-self-2
invariant_of-self-2 g c =
    let ensured = c.do_request-result.ensures in
    let shown = g.D.BlockDev.shown in
    let noted : c.push_reserved.new.self.items ≡ c.self.inside.done.items
    ++ done_call c.args.id c.args.bio.now c.is_ok.result ∷ [] =
    c.push_reserved.ensures.items
    ∙ ap (λ (x : List Done × Bio). x.0 ++ done_call c.args.id x.1 c.is_ok.result ∷ [])
    (λ i. (c.reserve.ensures.items i, c.in_ok-bio_kept.ensures.made i)) in
    kept_call _ (shown c.self.inside.device) _ c.self.inside.done.items _
    (done_call c.args.id c.args.bio.now c.is_ok.result) c.self.invariant noted
    ensured.size ensured.lies ensured.patched
    (λ ok. on_ok c.do_request-result.result _ (sym c.is_ok.ensures.value ∙ ok) ensured.whole)

pub returns-clause-content : goal.returns-clause-content
returns-clause-content g c =
    let shown = g.D.BlockDev.shown in
    let device = c.do_request-result.new.device in
    subst (λ (d : Data g.row.D.Denot). OnOk c.do_request-result.result
    ((shown device).lies ≡ 0 → (sector : ℕ)
    → (shown device).content sector
    ≡ put (values_of c.args.bio.now) (shown d.device).content sector))
    c.self.view_is c.do_request-result.ensures.whole
