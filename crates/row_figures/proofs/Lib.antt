mod Page
