-- Calls in frames of their own: they keep the laws and what their parts keep, and follow where their parts do.
use Rattle.std.proofs.Common.{◌≡◌, ℕ, Bool, refl}
use Rattle.step_semantics.specs.Steps.{World, Halt, Part, block}
use Rattle.step_semantics.specs.Frames.{Frames, push_frame, pop_frame, in_frame}
use Rattle.step_semantics.specs.Lawful.{Lawful}
use Rattle.step_semantics.specs.Safe.{HasMeaning, Keeps, AlwaysSafe}
use Rattle.step_semantics.specs.Follows.{Follows}
use Rattle.step_semantics.proofs.Laws.{block_lawful}
use Rattle.step_semantics.proofs.Keeping.{keeps_left}
use Rattle.step_semantics.proofs.Following.{blocked}

pub popped_again : {F : Type 0} (frame : F) (frames : Frames F) → pop_frame (push_frame frame frames) ≡ frames
popped_again frame frames = refl

pub pushed_lawful : {S A : Type 0} (push : S → S) (part : Part S A) → Lawful part → Lawful (λ n w s. part n w (push s))
pushed_lawful push part l = record { grows = λ n w s. l.grows n w (push s); stays = λ n k w s. l.stays n k w (push s) }

pub in_frame_lawful : {S A : Type 0} (push pop : S → S) (part : Part S A) → Lawful part → Lawful (in_frame push pop part)
in_frame_lawful push pop part l =
    let l = block_lawful (λ before end. pop end) (λ n w s. part n w (push s)) (pushed_lawful push part l) in
    record { grows = λ n w s. l.grows n w s; stays = λ n k w s. l.stays n k w s }

pub keeps_in_frame : (allowed : Halt → Type 0) {S A : Type 0} (post post' : A → S → Type 0) (push pop : S → S) (part : Part S A) (n : ℕ) (w : World) (s : S) → ((a : A) (u : S) → post a u → post' a (pop u)) → Keeps allowed post (part n w (push s)) → Keeps allowed post' (in_frame push pop part n w s)
keeps_in_frame allowed post post' push pop part n w s h k = keeps_left allowed post post' (λ before end. pop end) s (part n w (push s)) h k

pub in_frame_safe : {S A : Type 0} (push pop : S → S) (part : Part S A) → AlwaysSafe part → AlwaysSafe (in_frame push pop part)
in_frame_safe push pop part h = record { safe = λ n w s. keeps_in_frame HasMeaning (λ a u. Unit {0}) (λ a u. Unit {0}) push pop part n w s (λ a u t. tt) (h.safe n w (push s)) }

-- a call on both sides, each in a frame of its own
pub in_frame_follows : {S T A B : Type 0} (excused : ℕ → Bool) (post post' : A → S → B → T → Type 0) (push pop : S → S) (push' pop' : T → T) (part : Part S A) (part' : Part T B) (x y n : ℕ) (w : World) (s : S) (t : T) → ((a : A) (u : S) (b : B) (v : T) → post a u b v → post' a (pop u) b (pop' v)) → Follows excused post x y n (part n w (push s)) (λ j. part' j w (push' t)) → Follows excused post' x y n (in_frame push pop part n w s) (λ j. in_frame push' pop' part' j w t)
in_frame_follows excused post post' push pop push' pop' part part' x y n w s t h f = blocked excused post post' (λ before end. pop end) (λ before end. pop' end) s t x y n (part n w (push s)) (λ j. part' j w (push' t)) h f
