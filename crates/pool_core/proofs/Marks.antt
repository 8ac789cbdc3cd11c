-- What an actor looked at stays as it is while it reads.
use Rattle.std.proofs.Common.{◌≡◌, ◌≢◌, ℕ, true, false, not, eqb, List, [], ◌∷◌, ◌++◌, get_or, Option, Some, None, refl, sym, ap, subst, ◌∙◌, inl, inr}
use Rattle.std.specs.Prelude.{slice_get, ◌||◌}
use Rattle.std.specs.List.{Contains, list_any}
use Rattle.std.proofs.lemmas.Bool.{cases_eq, cases_Bool, eq-eqb, eqb-false, and_cases, or_parts, not-true, false≢true}
use Rattle.std.proofs.lemmas.List.Elements.{Contains-push_cases}
use Rattle.row_image.specs.Image.{part_at}
use Rattle.page_body.specs.Bodies.{image_of}
use Rattle.pool_core.specs.declared.state.CorePage.{CorePage}
use Rattle.pool_core.specs.declared.state.Mark.{Mark}
use Rattle.pool_core.specs.State.{LiesAt}
use Rattle.pool_core.specs.Enabled.{HoldsHeap, LooksThrough, CanLook}
use Rattle.pool_core.specs.Readers.{without_one}
use Rattle.pool_core.specs.Effects.{names_page, has_heap_page, rests_on, marks_left}
use Rattle.pool_core.specs.Sound.{MarksHold}
use Rattle.pool_core.proofs.Lists.{Puts, at_some, some_of, same_at}
use Rattle.pool_core.proofs.Ready.{on_some}
use Rattle.pool_core.proofs.Contained.{others_stay, found_in, passed, not_named}
use Rattle.pool_core.proofs.MarksLeft.{left_read, left_gone}

-- a page that an actor reads is there after a step, with its body, and the actor reads it still
pub record Stays (pages : List CorePage) (page : ℕ) (p : CorePage) (actor : ℕ) : Type 0 where
  pub readers : List ℕ
  pub writer : Option ℕ
  pub there : slice_get pages page ≡ Some (record p { readers = readers; writer = writer })
  pub reads : Contains readers actor

-- the pages that a look of an actor rests on stay
pub record RestStays (old new : List CorePage) (actor page : ℕ) : Type 0 where
  pub rows : (p : CorePage) → slice_get old page ≡ Some p → Contains p.readers actor → Stays new page p actor
  pub heaps : (p : CorePage) (part heap : ℕ) → slice_get old page ≡ Some p → get_or p.heaps part None ≡ Some heap → (q : CorePage) → slice_get old heap ≡ Some q → Contains q.readers actor → Stays new heap q actor

heap_kept : (bytes : ℕ) (old new : List CorePage) (actor base heap : ℕ) → HoldsHeap bytes old actor base heap → ((q : CorePage) → slice_get old heap ≡ Some q → Contains q.readers actor → Stays new heap q actor) → HoldsHeap bytes new actor base heap
heap_kept bytes old new actor base heap holds stay =
    let some = some_of (slice_get old heap) (λ q. Contains q.readers actor × LiesAt bytes base q.body) holds in
    let stays = stay some.0 some.1 some.2.0 in
    at_some (slice_get new heap) (λ q. Contains q.readers actor × LiesAt bytes base q.body) (record some.0 { readers = stays.readers; writer = stays.writer }) stays.there (stays.reads, some.2.1)

pub look_kept : (bytes : ℕ) (old new : List CorePage) (actor page : ℕ) → CanLook bytes old actor page → RestStays old new actor page → CanLook bytes new actor page
look_kept bytes old new actor page look rest =
    let some = some_of (slice_get old page) (λ p. LooksThrough bytes old actor p) look in
    let p = some.0 in
    let h = some.2 in
    let stays = rest.rows p some.1 h.reads in
    at_some (slice_get new page) (λ p. LooksThrough bytes new actor p) (record p { readers = stays.readers; writer = stays.writer }) stays.there
    (record {
      reads = stays.reads;
      kind = h.kind;
      resident = h.resident;
      bases = λ part has. on_some (get_or p.heaps part None) (λ heap. HoldsHeap bytes old actor (part_at (image_of p.body) part).base heap) (λ heap. HoldsHeap bytes new actor (part_at (image_of p.body) part).base heap) (h.bases part has)
          (λ heap is holds. heap_kept bytes old new actor (part_at (image_of p.body) part).base heap holds (λ q there reads. rest.heaps p part heap some.1 is q there reads));
    })

-- every page that is read stays
abbrev pub AllStay : List CorePage → List CorePage → Type 0
AllStay old new = (actor page : ℕ) (p : CorePage) → slice_get old page ≡ Some p → Contains p.readers actor → Stays new page p actor

pub marks_kept : (bytes : ℕ) (old new : List CorePage) (marks : List Mark) → MarksHold bytes old marks → AllStay old new → MarksHold bytes new marks
marks_kept bytes old new marks hold stay mark has =
    look_kept bytes old new mark.actor mark.page (hold mark has)
    (record { rows = λ p there reads. stay mark.actor mark.page p there reads; heaps = λ p part heap there named q is reads. stay mark.actor heap q is reads })

-- a page stays as it is
same_stays : (old new : List CorePage) (place : ℕ) (p' : CorePage) → Puts old new place p' → (page actor : ℕ) (p : CorePage) → page ≢ place → slice_get old page ≡ Some p → Contains p.readers actor → Stays new page p actor
same_stays old new place p' put page actor p ne there reads = record { readers = p.readers; writer = p.writer; there = put.others page ne ∙ there; reads = reads }

-- a page that nobody reads changes, or comes in
pub unread_stays : (old new : List CorePage) (place : ℕ) (p' : CorePage) → Puts old new place p' → ((p : CorePage) (actor : ℕ) → slice_get old place ≡ Some p → Contains p.readers actor → ⊥) → AllStay old new
unread_stays old new place p' put unread actor page p there reads =
    elim (cases_eq page place) [
      | inl same ↦ absurd (unread p actor (ap (slice_get old) (sym same) ∙ there) reads)
      | inr ne ↦ same_stays old new place p' put page actor p ne there reads
    ]

-- a page gets other claims, and keeps one of an actor
claimed_stays : (old new : List CorePage) (place : ℕ) (p : CorePage) (readers : List ℕ) (writer : Option ℕ) → slice_get old place ≡ Some p → Puts old new place (record p { readers = readers; writer = writer })
    → (actor page : ℕ) (x : CorePage) → page ≡ place → slice_get old page ≡ Some x → (Contains p.readers actor → Contains readers actor) → Contains x.readers actor → Stays new page x actor
claimed_stays old new place p readers writer e put actor page x same there keeps reads =
    let is : x ≡ p = same_at (slice_get old place) x p (ap (slice_get old) (sym same) ∙ there) e in
    let P : CorePage → Type 0 = λ y. Contains y.readers actor in
    record {
      readers = readers;
      writer = writer;
      there = ap (slice_get new) same ∙ put.there ∙ ap (λ (y : CorePage). Some (record y { readers = readers; writer = writer })) (sym is);
      reads = keeps (subst P is reads);
    }

-- an actor that keeps a claim
actor_stays : (old new : List CorePage) (place : ℕ) (p : CorePage) (readers : List ℕ) (writer : Option ℕ) → slice_get old place ≡ Some p → Puts old new place (record p { readers = readers; writer = writer })
    → (actor : ℕ) → (Contains p.readers actor → Contains readers actor) → (page : ℕ) (x : CorePage) → slice_get old page ≡ Some x → Contains x.readers actor → Stays new page x actor
actor_stays old new place p readers writer e put actor keeps page x there reads =
    elim (cases_eq page place) [
      | inl same ↦ claimed_stays old new place p readers writer e put actor page x same there keeps reads
      | inr ne ↦ same_stays old new place (record p { readers = readers; writer = writer }) put page actor x ne there reads
    ]

-- no claim of a reader goes
pub more_stays : (old new : List CorePage) (place : ℕ) (p : CorePage) (readers : List ℕ) (writer : Option ℕ) → slice_get old place ≡ Some p → Puts old new place (record p { readers = readers; writer = writer })
    → ((actor : ℕ) → Contains p.readers actor → Contains readers actor) → AllStay old new
more_stays old new place p readers writer e put keeps actor page x there reads = actor_stays old new place p readers writer e put actor (keeps actor) page x there reads

-- a mark that doesn't rest on a page
apart : (old new : List CorePage) (place : ℕ) (p' : CorePage) → Puts old new place p' → (mark : Mark) → rests_on new mark.actor place mark ≡ false → RestStays old new mark.actor mark.page
unfolding rests_on
apart old new place p' put mark none =
    let both : eqb mark.page place ≡ false × (has_heap_page place (slice_get new mark.page) ≡ false) = elim (and_cases (eqb mark.actor mark.actor) (eqb mark.page place || has_heap_page place (slice_get new mark.page)) none) [
      | inl differs ↦ absurd (false≢true (sym differs ∙ eq-eqb mark.actor mark.actor refl))
      | inr neither ↦ or_parts (eqb mark.page place) (has_heap_page place (slice_get new mark.page)) neither
    ] in
    let ne : mark.page ≢ place = eqb-false mark.page place both.0 in
    record {
      rows = λ p there reads. same_stays old new place p' put mark.page mark.actor p ne there reads;
      heaps = λ p part heap there named q is reads.
          let at : slice_get new mark.page ≡ Some p = put.others mark.page ne ∙ there in
          let unnamed : list_any (λ h. names_page place h) p.heaps ≡ false = ap (has_heap_page place) (sym at) ∙ both.1 in
          same_stays old new place p' put heap mark.actor q (not_named p.heaps place part heap unnamed named) is reads;
    }

-- a claim is given back
pub marks_after : (bytes : ℕ) (old new : List CorePage) (place actor : ℕ) (p : CorePage) (marks : List Mark) → slice_get old place ≡ Some p
    → Puts old new place (record p { readers = without_one actor p.readers }) → MarksHold bytes old marks → MarksHold bytes new (marks_left new actor place (without_one actor p.readers) marks)
marks_after bytes old new place actor p marks e put hold =
    let readers = without_one actor p.readers in
    let M : List Mark → Type 0 = λ ms. MarksHold bytes new ms in
    elim (cases_Bool (list_any (λ reader. eqb reader actor) readers)) [
      | inl still ↦ subst M (sym (left_read new actor place readers marks still))
          (marks_kept bytes old new marks hold (more_stays old new place p readers p.writer e put (λ other reads. claim_kept actor other p.readers still reads)))
      | inr last ↦ subst M (sym (left_gone new actor place readers marks last))
          (λ mark has.
          let both = passed (λ mark. not (rests_on new actor place mark)) marks mark has in
          look_kept bytes old new mark.actor mark.page (hold mark both.0) (rest_of mark (not-true (rests_on new actor place mark) both.1)))
    ]
  where
    claim_kept : (actor other : ℕ) (xs : List ℕ) → list_any (λ reader. eqb reader actor) (without_one actor xs) ≡ true → Contains xs other → Contains (without_one actor xs) other
    claim_kept actor other xs still reads =
        let P : ℕ → Type 0 = λ a. Contains (without_one actor xs) a in
        elim (cases_eq other actor) [ inl same ↦ subst P (sym same) (found_in actor (without_one actor xs) still) | inr ne ↦ others_stay actor other xs ne reads ]

    rest_of : (mark : Mark) → rests_on new actor place mark ≡ false → RestStays old new mark.actor mark.page
    rest_of mark none = elim (cases_eq mark.actor actor) [
      | inl same ↦ let P : ℕ → Type 0 = λ a. rests_on new a place mark ≡ false in apart old new place (record p { readers = without_one actor p.readers }) put mark (subst P (sym same) none)
      | inr ne ↦ record {
        rows = λ x there reads. actor_stays old new place p (without_one actor p.readers) p.writer e put mark.actor (others_stay actor mark.actor p.readers ne) mark.page x there reads;
        heaps = λ x part heap there named q is reads. actor_stays old new place p (without_one actor p.readers) p.writer e put mark.actor (others_stay actor mark.actor p.readers ne) heap q is reads;
      }
    ]

-- an actor looks
pub marks_more : (bytes : ℕ) (pages : List CorePage) (marks : List Mark) (mark : Mark) → MarksHold bytes pages marks → CanLook bytes pages mark.actor mark.page → MarksHold bytes pages (marks ++ mark ∷ [])
marks_more bytes pages marks mark hold look other has =
    let P : Mark → Type 0 = λ m. CanLook bytes pages m.actor m.page in
    elim (Contains-push_cases marks mark other has) [ inl there ↦ hold other there | inr is ↦ subst P is look ]
