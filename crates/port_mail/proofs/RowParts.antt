-- The parts of a handled row's mail, as the program puts them.
use Rattle.std.proofs.Common.{◌≡◌, ℕ, List, ◌++◌, sym, ap, ◌∙◌, subst, append_assoc}
use Rattle.std.specs.Prelude.{map, Result}
use Rattle.std.specs.List.{flat_map}
use Rattle.port_model.specs.declared.effect.Effect.{Effect}
use Rattle.port_model.specs.declared.signal.Signal.{Signal}
use Rattle.port_links.specs.port_history.Opening.{Opening, Taken}
use Rattle.port_links.specs.port_history.State.{State, stops}
use Rattle.port_links.specs.port_history.Mail.{Sent, effect_mail, answers, closed_mail, handled_mail}
use Rattle.port_links.specs.Posts.{sent_of}
use Rattle.port_mail.specs.declared.handling.Handling.{Handling}
use Rattle.port_mail.specs.declared.handling.Closing.{Closing}
use Rattle.port_mail.specs.Ends.{MailEnd, Posts, Grows, Puts}
use Rattle.port_mail.specs.Rows.{IsRowOf}
use Rattle.port_mail.proofs.Posting.{Grows-more, Grows-then, Puts-then, Puts-as}

joined : (a a' b b' c c' d d' : List Sent) → a ≡ a' → b ≡ b' → c ≡ c' → d ≡ d' → a ++ (b ++ (c ++ d)) ≡ ((a' ++ b') ++ c') ++ d'
joined a a' b b' c c' d d' p q r s =
    ap (λ x. x ++ (b ++ (c ++ d))) p
    ∙ (ap (λ x. a' ++ (x ++ (c ++ d))) q
    ∙ (ap (λ x. a' ++ (b' ++ (x ++ d))) r
    ∙ (ap (λ x. a' ++ (b' ++ (c' ++ x))) s ∙ (sym (append_assoc a' b' (c' ++ d')) ∙ sym (append_assoc (a' ++ b') c' d')))))

module _ (h : Handling) (effects : List Effect) (signal : Signal) (closing : Closing) (opening : Opening) (s : State) (t : Taken) where
  -- what the program puts of the effects, the answer, the end of the port, and `closed`
  abbrev pub effects_part : List Sent
  effects_part = flat_map (effect_mail h.port h.owner) effects

  abbrev pub answer_part : List Sent
  answer_part = answers opening s.ties h.from h.seq effects signal

  abbrev pub exits_part : List Sent
  exits_part = map sent_of closing.posts.items

  abbrev pub closed_part : List Sent
  closed_part = closed_mail h.port closing.stops closing.closer

  parts-are : IsRowOf h effects signal closing opening s t → effects_part ++ (answer_part ++ (exits_part ++ closed_part)) ≡ handled_mail opening s t
  parts-are r =
      joined _ _ _ _ _ _ _ _
      (ap (λ n. flat_map (effect_mail n h.owner) effects) r.before.port
      ∙ (ap (λ n. flat_map (effect_mail opening.number n) effects) r.before.owner
      ∙ ap (λ es. flat_map (effect_mail opening.number s.ties.owner) es) (sym r.effects)))
      (ap (λ from. answers opening s.ties from h.seq effects signal) (sym r.from)
      ∙ (ap (λ seq. answers opening s.ties t.from seq effects signal) (sym r.seq)
      ∙ (ap (λ es. answers opening s.ties t.from t.seq es signal) (sym r.effects)
      ∙ ap (λ sg. answers opening s.ties t.from t.seq t.effects sg) (sym r.signal))))
      r.exits
      (ap (λ n. closed_mail n closing.stops closing.closer) r.before.port
      ∙ (ap (λ b. closed_mail opening.number b closing.closer) r.stops ∙ ap (λ o. closed_mail opening.number (stops opening s t) o) r.closer))

  pub row-fails-first : (ended : List ℕ) (old a : List MailEnd) → IsRowOf h effects signal closing opening s t
      → Grows ended old a effects_part → Grows ended old a (handled_mail opening s t)
  row-fails-first ended old a r p =
      subst (Grows ended old a) (parts-are r) (Grows-more ended old a effects_part (answer_part ++ (exits_part ++ closed_part)) p)

  pub row-fails-second : (ended : List ℕ) (old a b : List MailEnd) → IsRowOf h effects signal closing opening s t
      → Posts ended old a effects_part → Grows ended a b answer_part → Grows ended old b (handled_mail opening s t)
  row-fails-second ended old a b r p q =
      subst (Grows ended old b) (parts-are r)
      (Grows-then ended old a b effects_part (answer_part ++ (exits_part ++ closed_part)) p
      (Grows-more ended a b answer_part (exits_part ++ closed_part) q))

  pub row-fails-third : (ended : List ℕ) (old a b d : List MailEnd) → IsRowOf h effects signal closing opening s t
      → Posts ended old a effects_part → Posts ended a b answer_part → Grows ended b d exits_part → Grows ended old d (handled_mail opening s t)
  row-fails-third ended old a b d r p q u =
      subst (Grows ended old d) (parts-are r)
      (Grows-then ended old a d effects_part (answer_part ++ (exits_part ++ closed_part)) p
      (Grows-then ended a b d answer_part (exits_part ++ closed_part) q
      (Grows-more ended b d exits_part closed_part u)))

  pub row-puts : {T E : Type 0} (result : Result T E) (ended : List ℕ) (old a b d new : List MailEnd) → IsRowOf h effects signal closing opening s t
      → Posts ended old a effects_part → Posts ended a b answer_part → Posts ended b d exits_part → Puts result ended d new closed_part
      → Puts result ended old new (handled_mail opening s t)
  row-puts result ended old a b d new r p q u v =
      Puts-as result ended old new (effects_part ++ (answer_part ++ (exits_part ++ closed_part))) (handled_mail opening s t) (parts-are r)
      (Puts-then result ended old a new effects_part (answer_part ++ (exits_part ++ closed_part)) p
      (Puts-then result ended a b new answer_part (exits_part ++ closed_part) q
      (Puts-then result ended b d new exits_part closed_part u v)))
