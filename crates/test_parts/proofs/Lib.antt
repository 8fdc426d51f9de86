mod Again
mod CutByKinds
mod ReadScripts
