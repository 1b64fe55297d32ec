-- The bytes of links.
use Rattle.std.specs.Prelude.{◌≡◌, ℕ, ◌∷◌, ◌++◌, List, length}
use Rattle.std.specs.List.{concat}
use Rattle.audit_link.specs.declared.codec.TheConstants.{LINK_MARK}
use Rattle.audit_link.specs.declared.link_error.LinkError.{LinkError}
use Rattle.audit_link.specs.declared.link_error.LinkError.TheVariants.{BadLink, Memory}
use Rattle.audit_link.specs.Links.{LinkData, IsLink}

-- A mark, the number of hashes in one byte, the hashes, the link and the MAC of the old log's closing entry, the keys of
-- the two entries of the new log, and these entries.
unfoldable pub link_bytes : LinkData → List ℕ
link_bytes link =
    LINK_MARK ∷ (length link.hashes ∷ (concat link.hashes ++ (link.last.link ++ (link.last.tag
    ++ (link.first.key ++ (link.second.key ++ (link.first.entry ++ link.second.entry)))))))

-- these bytes are the link's
pub record SpellsLink (bytes : List ℕ) (link : LinkData) : Type 0 where
  pub link_is : IsLink link
  pub bytes_are : bytes ≡ link_bytes link

-- why bytes weren't read: they are those of no link, or memory was refused
abbrev pub IsUnreadLink : List ℕ → LinkError → Type 0
IsUnreadLink bytes BadLink = (link : LinkData) → SpellsLink bytes link → ⊥
IsUnreadLink bytes Memory = Unit {0}
