-- A line of the body, or a crash, before the head is whole: it is `BadLine`, whatever its words are.
use Rattle.std.proofs.Common.{◌≡◌, ◌∙◌, Err, List, None, Option, Some, ap, refl, subst, sym, ℕ}
use Rattle.std.proofs.lemmas.Option.{cond_some}
use Rattle.std.specs.Option.{option_map}
use Rattle.refusals.specs.declared.refusal.Refusal.{Refusal}
use Rattle.refusals.specs.Words.{after_byte, before_byte, number_of}
use Rattle.dmlw_script.specs.declared.command.Step.TheVariants as steps
use Rattle.dmlw_script.specs.inside.LineParser.{disk_of_word, mark_of, message_of, picks_of, step}
use Rattle.dmlw_script.specs.inside.Readers.{IsEarly, Progress, step_if_parsed}
use Rattle.dmlw_script.specs.LineMeaning.{LineMeaning}
use Rattle.dmlw_script.specs.LineMeaning as parsed_lines
use Rattle.dmlw_script.specs.Words.{is_line_text}
use Rattle.dmlw_script.proofs.WordLaws.{bind_some}

-- the line isn't one of the head
abbrev IsBehindHead : LineMeaning → Type 0
IsBehindHead (parsed_lines.Head line) = ⊥
IsBehindHead other = Unit {0}

early : (p : Progress) (refusal : Refusal) (said : Option LineMeaning) → IsEarly p refusal
    → ((s : LineMeaning) → said ≡ Some s → IsBehindHead s) → step_if_parsed p said ≡ Err refusal
early p refusal None is each = ap Err (sym is.bad_line)
early p refusal (Some (parsed_lines.Head line)) is each = absurd (each (parsed_lines.Head line) refl)
early p refusal (Some (parsed_lines.Body line)) is each = is.no_body line ∙ ap Err (sym is.bad_line)
early p refusal (Some (parsed_lines.Crash picks)) is each =
    is.no_crash picks ∙ ap Err (sym is.bad_line)

pub crash_early : (p : Progress) (refusal : Refusal) (words : Option (List ℕ)) → IsEarly p refusal
    → step_if_parsed p (option_map parsed_lines.Crash (picks_of words)) ≡ Err refusal
crash_early p refusal words is = by_picks (picks_of words)
  where
    by_picks : (picks : Option (List ℕ))
        → step_if_parsed p (option_map parsed_lines.Crash picks) ≡ Err refusal
    by_picks None = ap Err (sym is.bad_line)
    by_picks (Some picks) = is.no_crash picks ∙ ap Err (sym is.bad_line)

pub mark_early : (p : Progress) (refusal : Refusal) (text : Option (List ℕ)) → IsEarly p refusal
    → step_if_parsed p (mark_of text) ≡ Err refusal
mark_early p refusal None is = ap Err (sym is.bad_line)
mark_early p refusal (Some text) is = early p refusal (mark_of (Some text)) is (λ s e.
    subst IsBehindHead (cond_some (is_line_text text) (step (steps.Mark text)) s e).1 tt)

pub message_early : (p : Progress) (refusal : Refusal) (words : Option (List ℕ)) → IsEarly p refusal
    → step_if_parsed p (message_of words) ≡ Err refusal
message_early p refusal None is = ap Err (sym is.bad_line)
message_early p refusal (Some words) is = early p refusal (message_of (Some words)) is (λ s e.
    let d = bind_some (disk_of_word (before_byte 32 words)) _ s e in
    let a = bind_some (after_byte 32 words) _ s d.2 in
    let n = bind_some (number_of (before_byte 32 a.0)) _ s a.2 in
    let t = bind_some (after_byte 32 a.0) _ s n.2 in
    subst IsBehindHead
    (cond_some (is_line_text t.0) (step (steps.Message d.0 n.0 t.0)) s t.2).1 tt)
