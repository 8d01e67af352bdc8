mod Saturating
