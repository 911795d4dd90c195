-- How the making of a shorter journal ends, by its fault.
use Rattle.std.proofs.Common.{lit<, ◌≡◌, ◌≢◌, ◌<◌, ◌⊎◌, ◌∙◌, inl, inr, ℕ, List, Option, Err, ap, refl, subst, sym}
use Rattle.std.specs.Io.KnownBytes.{Appends}
use Rattle.std.specs.Prelude.{Some, length, take}
use Rattle.shm_journal.specs.Found.{Sound, found}
use Rattle.shm_journal.specs.Lines.{Header}
use Rattle.shm_journal.specs.Shortened.{Shortens}
use Rattle.shm_journal.specs.declared.process_error.ProcessFault.TheVariants as process
use Rattle.shm_journal.specs.declared.recovery_error.RecoveryFault.TheVariants as recovery
use Rattle.shm_command.specs.Served.{site_status}
use Rattle.shm_command.specs.Shortening.{GoesOnFrom, IsShortenedText, Shortened, shorter_text, shortening_status}
use Rattle.shm_command.specs.declared.shortened_notice.Shorter.{Shorter}
use Rattle.shm_command.specs.declared.shortening_error.ShorteningFault.{ShorteningFault}
use Rattle.shm_command.specs.declared.shortening_error.ShorteningFault.TheVariants as fault
use Rattle.shm_command.specs.declared.site_error.SiteFault.{SiteFault}
use Rattle.shm_command.specs.declared.site_error.SiteFault.TheVariants as site

-- a failure's status: 1 or 3
abbrev pub IsFailure : ℕ → Type 0
IsFailure status = (status < 4) × (status ≢ 2) × (status ≢ 0)

one : IsFailure 1
one = (lit< tt, λ h. absurd (cc), λ h. absurd (cc))

three : IsFailure 3
three = (lit< tt, λ h. absurd (cc), λ h. absurd (cc))

of_site : (f : SiteFault) → IsFailure (site_status (Err f))
of_site (site.Unrecovered recovery.OutOfMemory) = three
of_site (site.Unrecovered recovery.ReadFault) = three
of_site (site.Unrecovered recovery.Foreign) = one
of_site (site.Unrecovered (recovery.BadLine number)) = one
of_site (site.Unrecovered recovery.UnendedState) = one
of_site (site.Ended process.OutOfMemory) = three
of_site (site.Ended process.ReadFault) = three
of_site (site.Ended process.WriteFault) = three
of_site (site.Ended process.JournalFault) = three
of_site (site.Ended (process.TooOld clock)) = one
of_site site.OutOfMemory = three
of_site site.Unopened = three
of_site site.Missing = one
of_site site.NoFile = one
of_site site.Existing = one
of_site site.Blank = one
of_site (site.Damaged bytes) = one
of_site site.Unmarked = one
of_site site.Taken = three
of_site site.Uncut = three
of_site site.Unlisted = three
of_site (site.Unopenable why) = three
of_site (site.Loose durable) = three

pub fails : (f : ShorteningFault) → IsFailure (shortening_status f)
fails (fault.Unread why) = of_site why
fails fault.OutOfMemory = three
fails fault.Untold = three
fails fault.Unwritten = three
fails fault.Unkept = three
fails fault.Unnamed = three
fails fault.Unlisted = three
fails fault.WriteFault = three

pub done : (old new : Option (List ℕ)) → (shorter : Shorter) × Appends old new (shorter_text shorter) → Shortened 0 old new
done old new told = record { told = λ is. told; failed = λ not. absurd (not refl); quiet = λ is. absurd (cc) }

still : {A : Type 0} (new old : A) (f : ShorteningFault) (status : ℕ) → status ≡ shortening_status f → status ≡ 1 → (f ≡ fault.WriteFault) ⊎ (new ≡ old) → new ≡ old
still new old f status is one (inl written) = let wrong : 1 ≡ 3 = sym one ∙ is ∙ ap shortening_status written in absurd (cc)
still new old f status is one (inr same) = same

pub not_done : {A : Type 0} (contents : A → Option (List ℕ)) (old new : A) (f : ShorteningFault) (status : ℕ) → status ≡ shortening_status f
    → (f ≡ fault.WriteFault) ⊎ (new ≡ old) → Shortened status (contents old) (contents new)
not_done contents old new f status is quiet = record {
  told = λ zero. absurd ((fails f).2 (sym is ∙ zero));
  failed = λ not. (f, is);
  quiet = λ one. ap contents (still new old f status is one quiet);
}

-- ---- files in a row

-- the lines begin with those of the journal that goes on from where the lines before lead
pub goes_on : (header : Header) (before next text : List ℕ) (n : ℕ) → IsShortenedText header (Some before) text → n ≡ length text → text ≡ take (length text) next
    → GoesOnFrom before next n
goes_on header before next text n led counted same = (
  header,
  led.node,
  subst (λ f. found header f ≡ Sound led.node) led.known led.sound,
  subst (Shortens header led.node) (same ∙ ap (λ k. take k next) (sym counted)) led.shortens,
)
